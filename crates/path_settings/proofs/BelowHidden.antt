-- Nothing is kept below a hidden path.
use Rattle.std.proofs.Common.{◌≡◌, ℕ, ◌<◌, ◌+◌, zero, suc, Bool, true, false, List, [], ◌∷◌, ◌++◌, length, Option, Some, None, Ok, refl}
use Rattle.std.proofs.Common.{sym, ap, ◌∙◌, subst, append-nil, length-append, ◌⊎◌, inl, inr, arith}
use Rattle.std.specs.Prelude.{◌&&◌, ◌||◌, not, nat_le, if◌then◌else◌}
use Rattle.std.specs.List.{AllByRecursion, Contains, list_any, enumerate_from}
use Rattle.std.proofs.lemmas.Bool.{false≢true, and_parts, and_from}
use Rattle.std.proofs.lemmas.Bool.Decides.{nat_tests}
use Rattle.std.proofs.lemmas.List.Elements.{recursion_from_All, All-from_recursion, All-contains, All-contains_itself}
use Rattle.abs_path.specs.Paths.{Path, tail_of}
use Rattle.abs_path.specs.Prefix.{is_prefix, is_same, rest_of, is_below}
use Rattle.abs_path.proofs.Prefixes.{prefix_chain, prefix_and_rest, same_path, same_itself}
use Rattle.abs_path.proofs.ByteOrder.{text_then_rest}
use Rattle.path_settings.specs.declared.mentions.Kind.{Kind}
use Rattle.path_settings.specs.declared.mentions.Kind.TheVariants.{Hide, Tmp, Bind}
use Rattle.path_settings.specs.declared.mentions.Mention.{Mention}
use Rattle.path_settings.specs.Mentions.{hides, is_tmp, is_bind, is_origin}
use Rattle.path_settings.specs.view_map.View.{Found, above, saying, length_of, longest}
use Rattle.path_settings.specs.view_map.Object.{object_by, object_from}
use Rattle.path_settings.specs.declared.view_map.rules.Beneath.{Beneath}
use Rattle.path_settings.specs.view_map.Kept.{Host, at_path, is_beaten, unbeaten_of, unbeaten, beneath_by, beneath_at, is_kept, fate_among}
use Rattle.path_settings.specs.view_map.Kept.{kept_among, kept_at, KeepsByRules}
use Rattle.path_settings.proofs.ViewMapLists.{all_filtered, all_weaker, all_enumerated, enumerated_all, none_from_test, filter_is}
use Rattle.path_settings.proofs.ViewMapLists.{filter_was}
use Rattle.path_settings.proofs.Largest.{none_largest}
use Rattle.path_settings.proofs.Deciding.{longest_is, longest_covers}
use Rattle.path_settings.proofs.KeptLaws.{kept_among_Ok, each_kept}

-- a prefix that is as long is the path itself
prefix_as_long : (front path : Path) → is_prefix front path ≡ true → nat_le (length (tail_of path)) (length (tail_of front)) ≡ true
    → front ≡ path
prefix_as_long front path leads long = by (rest_of front path) (prefix_and_rest front path leads)
    (ap length (text_then_rest front path leads) ∙ length-append (tail_of front) (tail_of (rest_of front path)))
  where
    by : (rest : Path) → front ++ rest ≡ path → length (tail_of path) ≡ length (tail_of front) + length (tail_of rest) → front ≡ path
    by [] same lengths = sym (append-nil front) ∙ same
    by (part ∷ rest) same lengths =
        absurd (not_longer (length (tail_of path)) (length (tail_of front)) (length (part ++ tail_of rest)) lengths long)
      where
        not_longer : (whole front more : ℕ) → whole ≡ front + suc more → nat_le whole front ≡ true → ⊥
        not_longer whole front more e h = grind (arith, nat_tests)

-- a path above another has fewer parts
above_is_shorter : (one path : Path) → is_below path one ≡ true → length one < length path
above_is_shorter one path over =
    let both = and_parts (is_prefix one path) (not (is_same one path)) over in
    by (rest_of one path) (prefix_and_rest one path both.0) both.1
  where
    by : (rest : Path) → one ++ rest ≡ path → not (is_same one path) ≡ true → length one < length path
    by [] same differ = let whole : one ≡ path = sym (append-nil one) ∙ same in
        absurd (false≢true (sym (ap not (subst (λ (p : Path). is_same one p ≡ true) whole (same_itself one))) ∙ differ))
    by (part ∷ rest) same differ = let e = ap length (sym same) ∙ length-append one (part ∷ rest) in omega arith

-- the longest mention that says so: if there is none, no mention says so; else it is as long as each that does
none_says : (says : Kind → Bool) (found : Found) → longest says found ≡ None → AllByRecursion (λ one. says one.1.kind ≡ true → ⊥) found
none_says says found e =
    filter_was (λ one. says one.1.kind) (λ _. ⊥) found
    (subst (AllByRecursion (λ (_ : ℕ × Mention). ⊥)) (sym (none_largest length_of (saying says found) e)) tt)

-- what holds of all found above a path holds of each mention above it
found_above : (P : Mention → Type 0) (path : Path) (kept : List Mention) → AllByRecursion (λ one. P one.1) (above path kept)
    → AllByRecursion (λ mention. is_below path mention.path ≡ true → P mention) kept
found_above P path kept h = enumerated_all (λ mention. is_below path mention.path ≡ true → P mention) 0 kept
    (filter_was (λ one. is_below path one.1.path) (λ one. P one.1) (enumerate_from 0 kept) h)

-- among mentions that no other beats, beside a hidden one, none is put there
unbeaten_puts_nothing : (here later : List Mention) → list_any (λ other. hides other.kind) here ≡ true
    → AllByRecursion (λ mention. (is_tmp mention.kind || is_bind mention.kind) ≡ false) (unbeaten_of here later)
unbeaten_puts_nothing here [] hidden = tt
unbeaten_puts_nothing here (mention ∷ later) hidden = by (is_beaten here later mention.kind) refl (unbeaten_puts_nothing here later hidden)
  where
    by : (b : Bool) → is_beaten here later mention.kind ≡ b → AllByRecursion
        (λ mention. (is_tmp mention.kind || is_bind mention.kind) ≡ false) (unbeaten_of here later) →
        AllByRecursion (λ mention. (is_tmp mention.kind || is_bind mention.kind) ≡ false)
        (if b then unbeaten_of here later else mention ∷ unbeaten_of here later)
    by true e more = more
    by false e more = (first (is_tmp mention.kind || is_bind mention.kind) (list_any (λ other. hides other.kind) here) _ hidden e, more)
      where
        first : (puts hidden rest : Bool) → hidden ≡ true → ((puts && hidden) || rest) ≡ false → puts ≡ false
        first false hidden rest h e = refl
        first true true rest h e = absurd (false≢true (sym e))
        first true false rest h e = absurd (false≢true h)

-- some mention at the path of a hidden one hides it
mention_hides : (mentions : List Mention) (one : Mention) → Contains mentions one → hides one.kind ≡ true
    → list_any (λ other. hides other.kind) (at_path one.path mentions) ≡ true
mention_hides mentions one has hidden = test (list_any (λ other. hides other.kind) (at_path one.path mentions)) refl
  where
    test : (b : Bool) → list_any (λ other. hides other.kind) (at_path one.path mentions) ≡ b → b ≡ true
    test true e = refl
    test false e =
        let none = filter_was (λ mention. is_same mention.path one.path) (λ mention. hides mention.kind ≡ false) mentions (none_from_test (λ mention. hides mention.kind) (at_path one.path mentions) e) in
        absurd (false≢true (sym (All-contains (λ mention. is_same mention.path one.path ≡ true → hides mention.kind ≡ false) mentions one
        (All-from_recursion (λ mention. is_same mention.path one.path ≡ true → hides mention.kind ≡ false) mentions none) has
        (same_itself one.path)) ∙ hidden))

-- so nothing is put there
kept_puts_nothing : (row_at : Host) (beneath : Beneath) (here more : List Mention) → kept_among row_at beneath (unbeaten here) ≡ Ok more
    → list_any (λ other. hides other.kind) here ≡ true →
    AllByRecursion (λ mention. (is_tmp mention.kind || is_bind mention.kind) ≡ false) more
kept_puts_nothing row_at beneath here more e hidden =
    subst (AllByRecursion (λ mention. (is_tmp mention.kind || is_bind mention.kind) ≡ false))
    (kept_among_Ok row_at beneath (unbeaten here) more e)
    (all_filtered (λ mention. (is_tmp mention.kind || is_bind mention.kind) ≡ false)
    (λ mention. is_kept (fate_among row_at beneath (unbeaten here) mention)) (unbeaten here) (unbeaten_puts_nothing here here hidden))

origin_hides : (kind : Kind) → is_origin kind ≡ true → (is_tmp kind || is_bind kind) ≡ false → hides kind ≡ true
origin_hides Hide says none = refl
origin_hides (Tmp read_only no_exec no_suid) says none = absurd (false≢true (sym none))
origin_hides (Bind source read_only recursive) says none = absurd (false≢true (sym none))
origin_hides _ says none = absurd (false≢true says)

-- at the path of a kept hidden mention, each kept mention that says which object is there hides it
hides_too : (row_at : Host) (mentions kept : List Mention) (one other : Mention) → KeepsByRules row_at mentions kept → Contains kept one
    → hides one.kind ≡ true →
    Contains kept other → other.path ≡ one.path → is_origin other.kind ≡ true → hides other.kind ≡ true
hides_too row_at mentions kept one other keeps has hidden among same says =
    let mentioned = All-contains (Contains mentions) kept one (All-from_recursion (Contains mentions) kept keeps.among) has in
    let rule = All-contains (λ mention. kept_at row_at mentions kept mention.path ≡ Ok (at_path mention.path kept)) mentions one
    (All-from_recursion (λ mention. kept_at row_at mentions kept mention.path ≡ Ok (at_path mention.path kept)) mentions keeps.rules) mentioned in
    let none = kept_puts_nothing row_at (beneath_at row_at kept one.path) (at_path one.path mentions) (at_path one.path kept) rule (mention_hides mentions one mentioned hidden) in
    let all = filter_was (λ mention. is_same mention.path one.path) (λ mention. (is_tmp mention.kind || is_bind mention.kind) ≡ false) kept none in
    origin_hides other.kind says
    (All-contains (λ mention. is_same mention.path one.path ≡ true → (is_tmp mention.kind || is_bind mention.kind) ≡ false) kept other
    (All-from_recursion (λ mention. is_same mention.path one.path ≡ true → (is_tmp mention.kind || is_bind mention.kind) ≡ false) kept
    all) among
    (subst (λ (p : Path). is_same p one.path ≡ true) (sym same) (same_itself one.path)))

-- the facts about the longest kept mention above a path
record Above (kept : List Mention) (path : Path) (mention : Mention) : Type 0 where
  among : Contains kept mention
  leads : is_below path mention.path ≡ true
  says : is_origin mention.kind ≡ true

longest_above : (kept : List Mention) (path : Path) (best : ℕ × Mention) → longest is_origin (above path kept) ≡ Some best
    → Above kept path best.1
longest_above kept path best e =
    longest_is (λ found. Above kept path found.1) is_origin (above path kept) best
    (filter_is (λ found. is_below path found.1.path) (λ found. is_origin found.1.kind ≡ true → Above kept path found.1)
    (enumerate_from 0 kept)
    (all_weaker (λ found. Contains kept found.1) _ (enumerate_from 0 kept)
    (λ found among leads says. record { among = among; leads = leads; says = says })
    (all_enumerated (Contains kept) 0 kept (recursion_from_All (Contains kept) kept (All-contains_itself kept))))) e

-- a mention that hides leaves nothing visible, and nothing is kept below it
hidden_drops : (row_at : Host) (here : List Mention) (kind : Kind) (place path : Path) (mention : Mention) → hides kind ≡ true →
    is_kept (fate_among row_at (beneath_by row_at (object_by kind place path)) here mention) ≡ true → ⊥
hidden_drops row_at here Hide place path mention hidden kept = false≢true kept
hidden_drops row_at here _ place path mention hidden kept = false≢true hidden

hides_says : (kind : Kind) → hides kind ≡ true → is_origin kind ≡ true
hides_says Hide hidden = refl
hides_says _ hidden = absurd (false≢true hidden)

same_or_above : (one path : Path) → is_prefix one path ≡ true → (one ≡ path) ⊎ (is_below path one ≡ true)
same_or_above one path leads = by (is_same one path) refl
  where
    by : (b : Bool) → is_same one path ≡ b → (one ≡ path) ⊎ (is_below path one ≡ true)
    by true e = inl (same_path one path e)
    by false e = inr (and_from _ _ leads (ap not e))

-- if the longest mention above a kept mention is at the hidden path, the mention is not kept
at_hidden : (row_at : Host) (mentions kept : List Mention) (one other : Mention) (best : ℕ × Mention) → KeepsByRules row_at mentions kept
    → Contains kept one → hides one.kind ≡ true → Contains kept other →
    longest is_origin (above other.path kept) ≡ Some best → Above kept other.path best.1 → best.1.path ≡ one.path → ⊥
at_hidden row_at mentions kept one other best keeps has hidden among e facts same =
    let fine = All-contains (λ mention. is_kept (fate_among row_at (beneath_at row_at kept mention.path) (unbeaten (at_path mention.path mentions)) mention) ≡ true) kept other
    (All-from_recursion (λ mention. is_kept (fate_among row_at (beneath_at row_at kept mention.path) (unbeaten (at_path mention.path mentions)) mention) ≡ true) kept (each_kept row_at mentions kept keeps)) among in
    hidden_drops row_at (unbeaten (at_path other.path mentions)) best.1.kind best.1.path other.path other
    (hides_too row_at mentions kept one best.1 keeps has hidden facts.among same facts.says)
    (subst (λ (o : Option (ℕ × Mention)). is_kept
    (fate_among row_at (beneath_by row_at (object_from o other.path)) (unbeaten (at_path other.path mentions)) other) ≡ true) e fine)

-- the longest mention above a mention below the hidden path is the hidden one, or lies below it too
nearest : (row_at : Host) (mentions kept : List Mention) (one other : Mention) (best : ℕ × Mention) → KeepsByRules row_at mentions kept
    → Contains kept one → hides one.kind ≡ true → Contains kept other →
    is_below other.path one.path ≡ true
    → ((nearer : Mention) → length nearer.path < length other.path → Contains kept nearer → is_below nearer.path one.path ≡ true → ⊥) →
    longest is_origin (above other.path kept) ≡ Some best → ⊥
nearest row_at mentions kept one other best keeps has hidden among over more e =
    let facts = longest_above kept other.path best e in
    let covered = found_above (λ mention. is_origin mention.kind ≡ true → nat_le (length (tail_of mention.path)) (length_of best) ≡ true) other.path kept (longest_covers is_origin (above other.path kept) best e) in
    let long = All-contains (λ mention. is_below other.path mention.path ≡ true → is_origin mention.kind ≡ true → nat_le (length (tail_of mention.path)) (length_of best) ≡ true) kept one
    (All-from_recursion (λ mention. is_below other.path mention.path ≡ true → is_origin mention.kind ≡ true → nat_le (length (tail_of mention.path)) (length_of best) ≡ true) kept covered) has over (hides_says one.kind hidden) in
    let at_it = at_hidden row_at mentions kept one other best keeps has hidden among e facts in
    elim (prefix_chain best.1.path one.path other.path (and_parts (is_prefix best.1.path other.path) _ facts.leads).0
    (and_parts (is_prefix one.path other.path) _ over).0) [
      | inl back ↦ at_it (prefix_as_long best.1.path one.path back long)
      | inr leads ↦ elim (same_or_above one.path best.1.path leads) [
        | inl same ↦ at_it (sym same)
        | inr below ↦ more best.1 (above_is_shorter best.1.path other.path facts.leads) facts.among below
      ]
    ]

none_nearer : (row_at : Host) (mentions kept : List Mention) (one other : Mention) → KeepsByRules row_at mentions kept → Contains kept one
    → hides one.kind ≡ true → Contains kept other →
    is_below other.path one.path ≡ true
    → ((nearer : Mention) → length nearer.path < length other.path → Contains kept nearer → is_below nearer.path one.path ≡ true → ⊥)
    → ⊥
none_nearer row_at mentions kept one other keeps has hidden among over more = by (longest is_origin (above other.path kept)) refl
  where
    by : (o : Option (ℕ × Mention)) → longest is_origin (above other.path kept) ≡ o → ⊥
    by None e =
        let none = found_above (λ mention. is_origin mention.kind ≡ true → ⊥) other.path kept (none_says is_origin (above other.path kept) e) in
        All-contains (λ mention. is_below other.path mention.path ≡ true → is_origin mention.kind ≡ true → ⊥) kept one
        (All-from_recursion (λ mention. is_below other.path mention.path ≡ true → is_origin mention.kind ≡ true → ⊥) kept none) has over
        (hides_says one.kind hidden)
    by (Some best) e = nearest row_at mentions kept one other best keeps has hidden among over more e

none_within : (row_at : Host) (mentions kept : List Mention) (one : Mention) → KeepsByRules row_at mentions kept → Contains kept one
    → hides one.kind ≡ true →
    (bound : ℕ) (other : Mention) → length other.path < bound → Contains kept other → is_below other.path one.path ≡ true → ⊥
none_within row_at mentions kept one keeps has hidden zero other short among over = absurd (omega arith)
none_within row_at mentions kept one keeps has hidden (suc bound) other short among over =
    none_nearer row_at mentions kept one other keeps has hidden among over
    (λ nearer closer. none_within row_at mentions kept one keeps has hidden bound nearer (omega arith))

-- nothing is kept below a hidden path
pub none_below_hidden : (row_at : Host) (mentions kept : List Mention) (one other : Mention) → KeepsByRules row_at mentions kept
    → Contains kept one → hides one.kind ≡ true → Contains kept other → is_below other.path one.path ≡ true → ⊥
none_below_hidden row_at mentions kept one other keeps has hidden among over =
    none_within row_at mentions kept one keeps has hidden (length other.path + 1) other (omega arith) among over
