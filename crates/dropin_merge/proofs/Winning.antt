-- The winners among some places, place by place, and the map of winners that holds them.
use Rattle.std.proofs.Common.{◌≡◌, ℕ, Bool, true, false, cond, List, [], ◌∷◌, Option, Some, None, map, String, Global, refl, sym, ap, ◌∙◌}
use Rattle.std.proofs.Common.{subst}
use Rattle.std.specs.Prelude.{◌&&◌, ◌||◌, T, is_some, find, filter, flat_map, string_bytes}
use Rattle.std.specs.declared.cmp.Ordering.TheVariants.{Less}
use Rattle.std.specs.Option.{option_map, option_or}
use Rattle.std.specs.Ordering.{nat_cmp, is_lt}
use Rattle.std.specs.Cmp.Lexicographic.{slice_cmp}
use Rattle.std.specs.String.{string_cmp}
use Rattle.std.specs.Str.{bytes_eq}
use Rattle.std.specs.List.{list_any, AllByRecursion}
use Rattle.std.specs.List.Sorted.{IsStrictlySortedBy}
use Rattle.std.specs.Map.{keys_of, lookup}
use Rattle.std.specs.BTreeMap.{BTreeMap, is_at, get_by_text, UpdatesBy, IsOrdered}
use Rattle.std.specs.FinMap.Entries.{find as find_key, below_all, is_sorted, same_entries}
use Rattle.std.proofs.lemmas.Cmp.{nat_list_cmp_total}
use Rattle.std.proofs.lemmas.Map.Lookups.{exact_bytes}
use Rattle.std.proofs.lemmas.Map.Text.{btree_map_updates_text}
use Rattle.std.proofs.lemmas.Slice.Eq.{bytes_eq-Decides}
use Rattle.std.proofs.lemmas.List.Folds.{list_any-append}
use Rattle.host_io.specs.Files.{Files, names_in}
use Rattle.unit_names.specs.Names.{Name}
use Rattle.dropin_merge.specs.Places.{below, dropin_places}
use Rattle.dropin_merge.specs.Winners.{is_there, ends_in_conf, is_conf, paths_in, winner_among, winner_of, in_byte_order, conf_names}
use Rattle.dropin_merge.specs.Winners.{winners_of}
use Rattle.dropin_merge.specs.Steps.{winner_at, at_name, at_place}
use Rattle.dropin_merge.proofs.Listed.{conf_there}
use Rattle.dropin_merge.proofs.Ordered.{byte_cmp, in_byte_order-sorted, any-in_byte_order, sorted_given, lookup_given}

-- ---- by places
or_next : (c t : Bool) (here : List ℕ) (next : Option (List ℕ))
    → cond c (cond t (Some here) next) None ≡ option_or (cond (c && t) (Some here) None) (cond c next None)
or_next true true here next = refl
or_next true false here next = refl
or_next false t here next = refl

pub winner_among-cons : (files : Files) (place : List ℕ) (places : List (List ℕ)) (q : List ℕ)
    → winner_among files (place ∷ places) q ≡ option_or (at_place place (names_in files place) q) (winner_among files places q)
winner_among-cons files place places q =
    or_next (is_conf q) (is_there files (below place q)) (below place q) (find (is_there files) (paths_in places q))
    ∙ ap (λ b. option_or (cond b (Some (below place q)) None) (winner_among files places q)) (sym (conf_there files place q))

pub option_or_assoc : {X : Type 0} (a b c : Option X) → option_or (option_or a b) c ≡ option_or a (option_or b c)
option_or_assoc None b c = refl
option_or_assoc (Some x) b c = refl

-- ---- one more file of a place
split_any : (e n m : Bool) (here : List ℕ) → cond (e && (n || m)) (Some here) None
    ≡ option_or (cond (e && n) (Some here) None) (cond (e && m) (Some here) None)
split_any true true m here = refl
split_any true false m here = refl
split_any false n m here = refl

pub at_place-cons : (place name : List ℕ) (names : List (List ℕ)) (q : List ℕ)
    → at_place place (name ∷ names) q ≡ option_or (at_name place name q) (at_place place names q)
at_place-cons place name names q = split_any (ends_in_conf q) (bytes_eq q name) (list_any (bytes_eq q) names) (below place q)

pub at_place-nil : (place q : List ℕ) → at_place place [] q ≡ None
at_place-nil place q = by_ending (ends_in_conf q)
  where
    by_ending : (e : Bool) → cond (e && false) (Some (below place q)) None ≡ None
    by_ending true = refl
    by_ending false = refl

pub option_or-none : {X : Type 0} (a : Option X) → option_or a None ≡ a
option_or-none None = refl
option_or-none (Some x) = refl

false_from : (b : Bool) → (b ≡ true → ⊥) → b ≡ false
false_from true h = absurd (h refl)
false_from false h = refl

-- a name that nothing has won is won by its path
pub insert_wins : (m n : BTreeMap (String Global) (String Global)) (place name : List ℕ) (path : String Global) → ends_in_conf name ≡ true
    → get_by_text m name ≡ None → string_bytes path ≡ below place name
    → UpdatesBy string_cmp (λ k. slice_cmp nat_cmp name (string_bytes k)) m n (Some path) → (q : List ℕ)
    → winner_at n q ≡ option_or (winner_at m q) (at_name place name q)
insert_wins m n place name path conf absent lies updates q =
    ap (option_map string_bytes) (btree_map_updates_text name m n (Some path) updates q) ∙ by_name (bytes_eq name q) refl
  where
    by_name : (b : Bool) → bytes_eq name q ≡ b → option_map string_bytes (cond b (Some path) (get_by_text m q))
        ≡ option_or (winner_at m q) (at_name place name q)
    by_name true e =
        let same : name ≡ q = (bytes_eq-Decides name q).0 e in
        let won_here : at_name place name name ≡ Some (below place name) = ap (λ b. cond (b && bytes_eq name name) (Some (below place name)) None) conf ∙ ap (λ b. cond b (Some (below place name)) None) ((bytes_eq-Decides name name).1 refl) in
        ap Some lies ∙ sym won_here ∙ ap (λ o. option_or (option_map string_bytes o) (at_name place name name)) (sym absent)
        ∙ ap (λ x. option_or (winner_at m x) (at_name place name x)) same
    by_name false e =
        let apart : bytes_eq q name ≡ false = false_from (bytes_eq q name) (λ t. false_is_true (sym e ∙ (bytes_eq-Decides name q).1 (sym ((bytes_eq-Decides q name).0 t)))) in
        sym (option_or-none (winner_at m q)) ∙ ap (option_or (winner_at m q))
        (sym (ap (λ b. cond (ends_in_conf q && b) (Some (below place q)) None) apart ∙ never (ends_in_conf q) (below place q)))
      where
        never : (c : Bool) (here : List ℕ) → cond (c && false) (Some here) None ≡ None
        never true here = refl
        never false here = refl

        false_is_true : false ≡ true → ⊥
        false_is_true h = cc

-- ---- the winners of a unit
-- a filter by the ending keeps these names
any_filter : (q : List ℕ) (names : List (List ℕ)) → list_any (bytes_eq q) (filter ends_in_conf names)
    ≡ (ends_in_conf q && list_any (bytes_eq q) names)
any_filter q [] = by_ending (ends_in_conf q)
  where
    by_ending : (e : Bool) → false ≡ (e && false)
    by_ending true = refl
    by_ending false = refl
any_filter q (name ∷ names) = by_ending (any_filter q names) (ends_in_conf name) refl
  where
    missed : (e b : Bool) (n : Bool) → (b ≡ true → e ≡ false) → (e && n) ≡ (e && (b || n))
    missed true true n h = absurd (off (h refl))
      where
        off : true ≡ false → ⊥
        off p = cc
    missed true false n h = refl
    missed false b n h = refl

    met : (e b : Bool) (n : Bool) → (b ≡ true → e ≡ true) → (b || (e && n)) ≡ (e && (b || n))
    met true b n h = refl
    met false true n h = absurd (off (h refl))
      where
        off : false ≡ true → ⊥
        off p = cc
    met false false n h = refl

    same_ending : bytes_eq q name ≡ true → ends_in_conf q ≡ ends_in_conf name
    same_ending e = ap ends_in_conf ((bytes_eq-Decides q name).0 e)

    by_ending : list_any (bytes_eq q) (filter ends_in_conf names) ≡ (ends_in_conf q && list_any (bytes_eq q) names) → (b : Bool)
        → ends_in_conf name ≡ b → list_any (bytes_eq q) (cond b (name ∷ filter ends_in_conf names) (filter ends_in_conf names))
        ≡ (ends_in_conf q && (bytes_eq q name || list_any (bytes_eq q) names))
    by_ending rest true e = ap (λ t. bytes_eq q name || t) rest
        ∙ met (ends_in_conf q) (bytes_eq q name) (list_any (bytes_eq q) names) (λ t. same_ending t ∙ e)
    by_ending rest false e = rest ∙ missed (ends_in_conf q) (bytes_eq q name) (list_any (bytes_eq q) names) (λ t. same_ending t ∙ e)

spread : (e a b : Bool) → (e && (a || b)) ≡ ((e && a) || (e && b))
spread true a b = refl
spread false a b = refl

found_or : (c t : Bool) (here : List ℕ) (next : Option (List ℕ)) (n : Bool) → (c && is_some next) ≡ n
    → ((c && t) || n) ≡ (c && is_some (cond t (Some here) next))
found_or true true here next n e = refl
found_or true false here next n e = sym e
found_or false t here next n e = sym e

-- the names of drop-ins are exactly the names with a winner
names_have_winners : (files : Files) (q : List ℕ) (places : List (List ℕ))
    → (ends_in_conf q && list_any (bytes_eq q) (flat_map (names_in files) places))
    ≡ (is_conf q && is_some (find (is_there files) (paths_in places q)))
names_have_winners files q [] = both_off (ends_in_conf q) (is_conf q)
  where
    both_off : (a b : Bool) → (a && false) ≡ (b && false)
    both_off true true = refl
    both_off true false = refl
    both_off false true = refl
    both_off false false = refl
names_have_winners files q (place ∷ places) =
    ap (λ b. ends_in_conf q && b) (list_any-append (bytes_eq q) (names_in files place) (flat_map (names_in files) places))
    ∙ spread (ends_in_conf q) (list_any (bytes_eq q) (names_in files place)) (list_any (bytes_eq q) (flat_map (names_in files) places))
    ∙ ap (λ b. b || (ends_in_conf q && list_any (bytes_eq q) (flat_map (names_in files) places))) (conf_there files place q)
    ∙ found_or (is_conf q) (is_there files (below place q)) (below place q) (find (is_there files) (paths_in places q)) _
    (sym (names_have_winners files q places))

-- a value that a test may remove stays the same if the test passes
none_if : Bool → Option (List ℕ)
none_if b = cond b None None

only_there : (c : Bool) (o : Option (List ℕ)) (n : Bool) → n ≡ (c && is_some o) → cond n (cond c o None) None ≡ cond c o None
unfolding none_if
only_there true None n e = ap (λ b. none_if b) e
only_there true (Some x) n e = ap (λ b. cond b (Some x) None) e
only_there false o n e = ap (λ b. none_if b) e

pub lookup-winners_of : (files : Files) (unit : Name) (q : List ℕ)
    → lookup (is_at (byte_cmp q)) (winners_of files unit) ≡ winner_of files unit q
lookup-winners_of files unit q =
    lookup_given (winner_of files unit) q (in_byte_order (conf_names files (dropin_places unit)))
    ∙ only_there (is_conf q) (find (is_there files) (paths_in (dropin_places unit) q)) _
    (any-in_byte_order q (conf_names files (dropin_places unit)) ∙ any_filter q (flat_map (names_in files) (dropin_places unit))
    ∙ names_have_winners files q (dropin_places unit))

pub winners_of-sorted : (files : Files) (unit : Name) → IsStrictlySortedBy byte_cmp (keys_of (winners_of files unit))
winners_of-sorted files unit = sorted_given (winner_of files unit) _ (in_byte_order-sorted (conf_names files (dropin_places unit)))

-- two lists in order are equal if they have the same value at each name
both_hold : (a b : Bool) → T a → T b → T (a && b)
both_hold true b f g = g
both_hold false b f g = f

below_test : (first : List ℕ) (es : List (List ℕ × List ℕ)) → AllByRecursion (λ y. byte_cmp first y ≡ Less) (keys_of es)
    → T (below_all byte_cmp first es)
below_test first [] all = tt
below_test first (entry ∷ es) all = both_hold _ _ (subst (λ o. T (is_lt o)) (sym all.0) tt) (below_test first es all.1)

sorted_test : (es : List (List ℕ × List ℕ)) → IsStrictlySortedBy byte_cmp (keys_of es) → T (is_sorted byte_cmp es)
unfolding IsStrictlySortedBy
sorted_test [] sorted = tt
sorted_test (entry ∷ es) sorted = both_hold _ _ (below_test entry.0 es sorted.0) (sorted_test es sorted.1)

find_is_lookup : (q : List ℕ) (es : List (List ℕ × List ℕ)) → find_key byte_cmp q es ≡ lookup (is_at (byte_cmp q)) es
find_is_lookup q [] = refl
find_is_lookup q (entry ∷ es) = ap (cond (is_at (byte_cmp q) entry.0) (Some entry.1)) (find_is_lookup q es)

pub same_from_lookups : (es fs : List (List ℕ × List ℕ)) → IsStrictlySortedBy byte_cmp (keys_of es)
    → IsStrictlySortedBy byte_cmp (keys_of fs) → ((q : List ℕ) → lookup (is_at (byte_cmp q)) es ≡ lookup (is_at (byte_cmp q)) fs) → es ≡ fs
same_from_lookups es fs s t h =
    same_entries byte_cmp nat_list_cmp_total exact_bytes es fs (sorted_test es s) (sorted_test fs t)
    (λ q. find_is_lookup q es ∙ h q ∙ sym (find_is_lookup q fs))

-- ---- the map of winners
abbrev pub entry_texts : String Global × String Global → List ℕ × List ℕ
entry_texts entry = (string_bytes entry.0, string_bytes entry.1)

lookup_texts : (q : List ℕ) (es : List (String Global × String Global))
    → lookup (is_at (byte_cmp q)) (map entry_texts es) ≡ option_map string_bytes (lookup (is_at (λ k. byte_cmp q (string_bytes k))) es)
lookup_texts q [] = refl
lookup_texts q (entry ∷ es) = by_test (lookup_texts q es) (is_at (byte_cmp q) (string_bytes entry.0))
  where
    by_test : lookup (is_at (byte_cmp q)) (map entry_texts es)
        ≡ option_map string_bytes (lookup (is_at (λ k. byte_cmp q (string_bytes k))) es) → (b : Bool)
        → cond b (Some (string_bytes entry.1)) (lookup (is_at (byte_cmp q)) (map entry_texts es))
        ≡ option_map string_bytes (cond b (Some entry.1) (lookup (is_at (λ k. byte_cmp q (string_bytes k))) es))
    by_test rest true = refl
    by_test rest false = rest

below_texts : (first : String Global) (es : List (String Global × String Global))
    → AllByRecursion (λ y. string_cmp first y ≡ Less) (keys_of es)
    → AllByRecursion (λ y. byte_cmp (string_bytes first) y ≡ Less) (keys_of (map entry_texts es))
below_texts first [] all = tt
below_texts first (entry ∷ es) all = (all.0, below_texts first es all.1)

sorted_texts : (es : List (String Global × String Global)) → IsStrictlySortedBy string_cmp (keys_of es)
    → IsStrictlySortedBy byte_cmp (keys_of (map entry_texts es))
unfolding IsStrictlySortedBy
sorted_texts [] sorted = tt
sorted_texts (entry ∷ es) sorted = (below_texts entry.0 es sorted.0, sorted_texts es sorted.1)

-- a map that has the winner of each file name has the winners in their order
pub entries_are_winners : (files : Files) (unit : Name) (m : BTreeMap (String Global) (String Global)) → IsOrdered string_cmp m
    → ((q : List ℕ) → winner_at m q ≡ winner_of files unit q) → map entry_texts m.entries ≡ winners_of files unit
entries_are_winners files unit m ordered has =
    same_from_lookups (map entry_texts m.entries) (winners_of files unit) (sorted_texts m.entries ordered) (winners_of-sorted files unit)
    (λ q. lookup_texts q m.entries ∙ has q ∙ sym (lookup-winners_of files unit q))

none_is : {X : Type 0} (o : Option X) → is_some o ≡ false → o ≡ None
none_is None e = refl
none_is (Some x) e = cc

-- the same holds if the key is a copy of the name
pub copy_wins : (m n : BTreeMap (String Global) (String Global)) (place name : List ℕ) (key path : String Global)
    → string_bytes key ≡ name → ends_in_conf name ≡ true → is_some (get_by_text m name) ≡ false → string_bytes path ≡ below place name
    → UpdatesBy string_cmp (string_cmp key) m n (Some path) → (q : List ℕ)
    → winner_at n q ≡ option_or (winner_at m q) (at_name place name q)
copy_wins m n place name key path same conf absent lies updates q =
    subst (λ b. winner_at n q ≡ option_or (winner_at m q) (at_name place b q)) same
    (insert_wins m n place (string_bytes key) path (ap ends_in_conf same ∙ conf)
    (ap (get_by_text m) same ∙ none_is (get_by_text m name) absent) (lies ∙ ap (below place) (sym same)) updates q)
