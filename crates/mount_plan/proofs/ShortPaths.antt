-- The object of a place has a path of at most 512 bytes on the host. Below a bind it is the path of a row of the host. Elsewhere it is
-- the path of a mention, or the source of a bind.
use Rattle.std.proofs.Common.{◌≡◌, ◌⊎◌, inl, inr, ℕ, ◌<◌, ◌≤◌, Bool, true, false, cond, List, [], ◌∷◌, ◌++◌, filter, find, length, Option}
use Rattle.std.proofs.Common.{Some, None, Ok, refl, sym, ap, ◌∙◌, subst, append-nil, length-append, arith}
use Rattle.std.specs.Prelude.{◌&&◌, ◌||◌, not, nat_le}
use Rattle.std.specs.List.{AllByRecursion, Contains, list_any, enumerate_from}
use Rattle.std.proofs.lemmas.Bool.{false≢true, false_from_ne_true, and_parts, and_from, leb-true}
use Rattle.std.proofs.lemmas.Bool.Decides.{nat_tests}
use Rattle.std.proofs.lemmas.List.Elements.{recursion_from_All, All-from_recursion, All-contains, All-contains_itself}
use Rattle.path_settings.specs.abs_path.Paths.{Path, tail_of, text_of, is_normal}
use Rattle.path_settings.specs.abs_path.Prefix.{is_prefix, is_same, rest_of, is_below}
use Rattle.path_settings.proofs.OfAbsPath.Prefixes.{same_path, same_itself, prefix_and_rest, prefix_itself}
use Rattle.path_settings.proofs.OfAbsPath.ByteOrder.{text_then_rest}
use Rattle.path_settings.proofs.OfAbsPath.Placed.{in_byte_order_is}
use Rattle.path_settings.specs.declared.mentions.Kind.{Kind}
use Rattle.path_settings.specs.declared.mentions.Kind.TheVariants.{Hide, Tmp, Bind}
use Rattle.path_settings.specs.declared.mentions.Mention.{Mention}
use Rattle.path_settings.specs.Mentions.{is_tmp, is_bind, is_origin, is_path, has_whole_source, is_whole}
use Rattle.path_settings.specs.view_map.View.{leading_to, above, length_of, is_as_long_as_each, longest, origin_of}
use Rattle.path_settings.specs.view_map.Object.{object_by, object_from, object_at}
use Rattle.path_settings.specs.declared.view_map.rules.Beneath.{Beneath}
use Rattle.path_settings.specs.declared.view_map.rules.Beneath.TheVariants as beneath
use Rattle.path_settings.specs.view_map.Rules.{fate_of, seen_fate}
use Rattle.path_settings.specs.view_map.Kept.{Host, at_path, unbeaten, beneath_row, beneath_by, beneath_at, source_row, puts, is_kept}
use Rattle.path_settings.specs.view_map.Kept.{fate_among, kept_among, kept_at, kept_of, KeepsByRules}
use Rattle.path_settings.proofs.ViewMapLists.{filter_was, all_weaker, all_mapped, all_enumerated, enumerated_all}
use Rattle.path_settings.proofs.Deciding.{origin_is, longest_covers}
use Rattle.path_settings.proofs.KeptLaws.{kept_among_Ok, kept_is, keeps_by_rules, each_kept}
use Rattle.mount_plan.specs.Plan.{places_of}
use Rattle.mount_plan.specs.Short.{HasShortHost, HaveShortHosts}
use Rattle.mount_plan.proofs.Hosts.{AreShortRows, tail_in_text}
use Rattle.mount_plan.proofs.PlanLaws.{AreNormal, LeaveTheRoot, paths_of, root_on_host}
use Rattle.mount_plan.proofs.FindsProc.{IsKeptAtAll}

-- a path above another has fewer bytes
has_bytes : (rest : Path) → (rest ≡ [] → ⊥) → 0 < length (tail_of rest)
has_bytes [] h = absurd (h refl)
has_bytes (part ∷ rest) h = omega arith

pub above_shorter : (one path : Path) → is_below path one ≡ true → length (tail_of one) < length (tail_of path)
above_shorter one path over =
    let both = and_parts (is_prefix one path) (not (is_same one path)) over in
    let more = has_bytes (rest_of one path) (λ none. false≢true (sym (ap not (subst (λ (p : Path). is_same one p ≡ true)
    (sym (append-nil one) ∙ ap (λ rest. one ++ rest) (sym none) ∙ prefix_and_rest one path both.0) (same_itself one))) ∙ both.1)) in
    let text = ap length (text_then_rest one path both.0) ∙ length-append (tail_of one) (tail_of (rest_of one path)) in
    omega arith

pub not_longer : (a b : ℕ) → b < a → nat_le a b ≡ true → ⊥
not_longer a b h g = absurd (false≢true (sym (above_false a b h) ∙ g))
  where
    above_false : (a b : ℕ) → b < a → nat_le a b ≡ false
    above_false a b h = grind (arith, nat_tests)

-- if the longest mention that says which object is at a path is above the path, no mention at the path says so
abbrev IsElsewhere : Path → Mention → Type 0
IsElsewhere path mention = is_origin mention.kind ≡ true → is_same mention.path path ≡ false

none_at_path : (kept : List Mention) (path : Path) (one : ℕ × Mention) → origin_of kept path ≡ Some one → is_below path one.1.path ≡ true
    → AllByRecursion (IsElsewhere path) kept
none_at_path kept path one e over =
    enumerated_all (IsElsewhere path) 0 kept
    (all_weaker (λ other. is_prefix other.1.path path ≡ true → is_origin other.1.kind ≡ true
    → nat_le (length_of other) (length_of one) ≡ true) (λ other. IsElsewhere path other.1) (enumerate_from 0 kept) elsewhere
    (filter_was (λ other. is_prefix other.1.path path) (λ other. is_origin other.1.kind ≡ true
    → nat_le (length_of other) (length_of one) ≡ true) (enumerate_from 0 kept)
    (longest_covers is_origin (leading_to path kept) one e)))
  where
    elsewhere : (other : ℕ × Mention)
        → (is_prefix other.1.path path ≡ true → is_origin other.1.kind ≡ true → nat_le (length_of other) (length_of one) ≡ true)
        → IsElsewhere path other.1
    elsewhere other h says = false_from_ne_true (is_same other.1.path path) (λ same.
        let at : other.1.path ≡ path = same_path other.1.path path same in
        not_longer (length_of other) (length_of one)
        (subst (λ (p : Path). length_of one < length (tail_of p)) (sym at) (above_shorter one.1.path path over))
        (h (subst (λ (p : Path). is_prefix p path ≡ true) (sym at) (prefix_itself path)) says))

-- two tests that agree on the elements that pass a third keep the same of these elements
filters_agree : {X : Type 0} (p q r : X → Bool) (xs : List X) → AllByRecursion (λ x. p x ≡ true → q x ≡ r x) xs
    → filter p (filter q xs) ≡ filter p (filter r xs)
filters_agree p q r [] h = refl
filters_agree {X = X} p q r (x ∷ xs) h = by (p x) refl (q x) (r x) h.0 (filters_agree p q r xs h.1)
  where
    skips : p x ≡ false → (b : Bool) (ys : List X) → filter p (cond b (x ∷ ys) ys) ≡ filter p ys
    skips e true ys = ap (λ b. cond b (x ∷ filter p ys) (filter p ys)) e
    skips e false ys = refl

    by : (b : Bool) → p x ≡ b → (c d : Bool) → (p x ≡ true → c ≡ d) → filter p (filter q xs) ≡ filter p (filter r xs) →
        filter p (cond c (x ∷ filter q xs) (filter q xs)) ≡ filter p (cond d (x ∷ filter r xs) (filter r xs))
    by false e c d same more = skips e c (filter q xs) ∙ more ∙ sym (skips e d (filter r xs))
    by true e true true same more = ap (λ ys. cond (p x) (x ∷ ys) ys) more
    by true e false false same more = more
    by true e true false same more = absurd (false≢true (sym (same e)))
    by true e false true same more = absurd (false≢true (same e))

-- so the longest mention above the path is the longest that leads to it
above_is_origin : (kept : List Mention) (path : Path) → AllByRecursion (IsElsewhere path) kept
    → longest is_origin (above path kept) ≡ origin_of kept path
above_is_origin kept path none = ap (λ said. find (is_as_long_as_each said) said)
    (filters_agree (λ one. is_origin one.1.kind) (λ one. is_below path one.1.path) (λ one. is_prefix one.1.path path)
    (enumerate_from 0 kept)
    (all_enumerated (λ mention. is_origin mention.kind ≡ true → is_below path mention.path ≡ is_prefix mention.path path) 0 kept
    (all_weaker (IsElsewhere path) (λ mention. is_origin mention.kind ≡ true → is_below path mention.path ≡ is_prefix mention.path path)
    kept
    (λ mention elsewhere says. ap (λ b. is_prefix mention.path path && not b) (elsewhere says) ∙ and_true (is_prefix mention.path path))
    none)))
  where
    and_true : (b : Bool) → (b && true) ≡ b
    and_true true = refl
    and_true false = refl

-- a flag that is kept is beside an empty file system or a bind that is kept, or it applies to a row
flag_beside : (source : Option Bool) (here : Beneath) (put : Bool) (mention : Mention) → is_origin mention.kind ≡ false
    → is_kept (fate_of source here put mention) ≡ true →
    (put ≡ true) ⊎ ((is_dir : Bool) × (here ≡ beneath.Row is_dir))
flag_beside source beneath.Hidden put mention flag h = absurd (false≢true h)
flag_beside source (beneath.Row is_dir) put mention flag h = inr (is_dir, refl)
flag_beside source beneath.Empty put mention flag h = inl (by mention.kind put flag h)
  where
    by : (kind : Kind) (put : Bool) → is_origin kind ≡ false → is_kept (seen_fate source beneath.Empty put mention.optional kind) ≡ true
        → put ≡ true
    by Hide put flag h = absurd (false≢true (sym flag))
    by (Tmp read_only no_exec no_suid) put flag h = absurd (false≢true (sym flag))
    by (Bind at read_only recursive) put flag h = absurd (false≢true (sym flag))
    by _ true flag h = refl
    by _ false flag h = absurd (false≢true h)
flag_beside source beneath.NoRow put mention flag h = inl (by mention.kind put mention.optional flag h)
  where
    by : (kind : Kind) (put optional : Bool) → is_origin kind ≡ false → is_kept (seen_fate source beneath.NoRow put optional kind) ≡ true
        → put ≡ true
    by Hide put optional flag h = absurd (false≢true (sym flag))
    by (Tmp read_only no_exec no_suid) put optional flag h = absurd (false≢true (sym flag))
    by (Bind at read_only recursive) put optional flag h = absurd (false≢true (sym flag))
    by _ true optional flag h = refl
    by _ false true flag h = absurd (false≢true h)
    by _ false false flag h = absurd (false≢true h)

-- an element that passes one test and is of the kind is found among the elements that pass another
any_kept : {X : Type 0} (puts keeps says : X → Bool) (xs : List X) → ((x : X) → puts x ≡ true → (keeps x ≡ true) × (says x ≡ true))
    → list_any puts xs ≡ true → list_any says (filter keeps xs) ≡ true
any_kept puts keeps says [] f h = absurd (false≢true h)
any_kept {X = X} puts keeps says (x ∷ xs) f h = by (puts x) refl (keeps x) refl h (any_kept puts keeps says xs f)
  where
    or_right : (a : Bool) → (a || true) ≡ true
    or_right true = refl
    or_right false = refl

    by : (b : Bool) → puts x ≡ b → (c : Bool) → keeps x ≡ c → (b || list_any puts xs) ≡ true
        → (list_any puts xs ≡ true → list_any says (filter keeps xs) ≡ true)
        → list_any says (cond c (x ∷ filter keeps xs) (filter keeps xs)) ≡ true
    by true e true g h more = ap (λ b. b || list_any says (filter keeps xs)) (f x e).1
    by true e false g h more = absurd (false≢true (sym g ∙ (f x e).0))
    by false e true g h more = ap (λ b. says x || b) (more h) ∙ or_right (says x)
    by false e false g h more = more h

-- a mention that is put and kept at a path says which object is there
put_is_kept : (row_at : Host) (here : Beneath) (mentions more : List Mention) → kept_among row_at here mentions ≡ Ok more
    → list_any (puts row_at here) mentions ≡ true → list_any (λ mention. is_origin mention.kind) more ≡ true
put_is_kept row_at here mentions more e put =
    ap (list_any (λ mention. is_origin mention.kind)) (sym (kept_among_Ok row_at here mentions more e))
    ∙ any_kept (puts row_at here) (λ mention. is_kept (fate_among row_at here mentions mention))
    (λ mention. is_origin mention.kind) mentions
    (λ mention h. let both = and_parts (is_tmp mention.kind || is_bind mention.kind) (is_kept (fate_of (source_row row_at mention.kind) here true mention)) h in
    (ap (λ b. is_kept (fate_of (source_row row_at mention.kind) here b mention)) put ∙ both.1, says mention.kind both.0)) put
  where
    says : (kind : Kind) → (is_tmp kind || is_bind kind) ≡ true → is_origin kind ≡ true
    says Hide h = refl
    says (Tmp read_only no_exec no_suid) h = refl
    says (Bind source read_only recursive) h = refl
    says _ h = h

none_among : (path : Path) (kept : List Mention) → AllByRecursion (IsElsewhere path) kept
    → list_any (λ mention. is_origin mention.kind) (at_path path kept) ≡ false
none_among path [] h = refl
none_among path (mention ∷ kept) h = by (is_same mention.path path) refl (is_origin mention.kind) refl (none_among path kept h.1)
  where
    by : (b : Bool) → is_same mention.path path ≡ b → (c : Bool) → is_origin mention.kind ≡ c
        → list_any (λ mention. is_origin mention.kind) (at_path path kept) ≡ false →
        list_any (λ mention. is_origin mention.kind) (cond b (mention ∷ at_path path kept) (at_path path kept)) ≡ false
    by false e c g more = more
    by true e true g more = absurd (false≢true (sym (h.0 g) ∙ e))
    by true e false g more = ap (λ b. b || list_any (λ mention. is_origin mention.kind) (at_path path kept)) g ∙ more

-- a row beneath a path is a row of the host
row_beneath : (row_at : Host) (source : Path) (is_dir : Bool) → beneath_row (row_at source) ≡ beneath.Row is_dir
    → row_at source ≡ Some is_dir
row_beneath row_at source is_dir e = by (row_at source) refl e
  where
    by : (o : Option Bool) → row_at source ≡ o → beneath_row o ≡ beneath.Row is_dir → row_at source ≡ Some is_dir
    by None found e = absurd (cc)
    by (Some own) found e = let same : own ≡ is_dir = cc in found ∙ ap Some same

-- a bind above a kept path has a row there
bound_row : (row_at : Host) (mentions kept : List Mention) (mention : Mention) (one : ℕ × Mention) (source : Path) (read_only recursive : Bool)
    → KeepsByRules row_at mentions kept → Contains kept mention →
    origin_of kept mention.path ≡ Some one → is_below mention.path one.1.path ≡ true → one.1.kind ≡ Bind source read_only recursive
    → (is_dir : Bool) × (row_at (source ++ rest_of one.1.path mention.path) ≡ Some is_dir)
bound_row row_at mentions kept mention one source read_only recursive keeps among e over kind =
    let path : Path = mention.path in
    let none = none_at_path kept path one e over in
    let flag = false_from_ne_true (is_origin mention.kind) (λ says. false≢true (sym (All-contains (IsElsewhere path) kept mention (All-from_recursion (IsElsewhere path) kept none) among says) ∙ same_itself path)) in
    let fates = All-contains (IsKeptAtAll row_at mentions kept) kept mention (All-from_recursion (IsKeptAtAll row_at mentions kept) kept (each_kept row_at mentions kept keeps)) among in
    let rule = All-contains (λ other. kept_at row_at mentions kept other.path ≡ Ok (at_path other.path kept)) mentions mention
    (All-from_recursion (λ other. kept_at row_at mentions kept other.path ≡ Ok (at_path other.path kept)) mentions keeps.rules) (All-contains (Contains mentions) kept mention (All-from_recursion (Contains mentions) kept keeps.among) among) in
    elim (flag_beside (source_row row_at mention.kind) (beneath_at row_at kept path)
    (list_any (puts row_at (beneath_at row_at kept path)) (unbeaten (at_path path mentions))) mention flag fates) [
      | inl put ↦ absurd (false≢true (sym (none_among path kept none)
          ∙ put_is_kept row_at (beneath_at row_at kept path) (unbeaten (at_path path mentions)) (at_path path kept) rule put))
      | inr row ↦ (
        row.0,
        row_beneath row_at (source ++ rest_of one.1.path path) row.0
            (sym (ap (λ o. beneath_by row_at (object_from o path)) (above_is_origin kept path none ∙ e)
            ∙ ap (λ kind. beneath_by row_at (object_by kind one.1.path path)) kind) ∙ row.1),
      )
    ]

pub short_path : (path : Path) → is_path path ≡ true → length (tail_of path) ≤ 512
short_path path h =
    let short = leb-true (length (text_of path)) 512 (and_parts (is_normal path) (nat_le (length (text_of path)) 512) h).1 in
    omega (arith, tail_in_text path, short)

pub rest_of_itself : (path : Path) → rest_of path path ≡ []
rest_of_itself [] = refl
rest_of_itself (part ∷ path) = rest_of_itself path

abbrev pub AreWhole : List Mention → Type 0
AreWhole mentions = AllByRecursion (λ mention. is_whole mention ≡ true) mentions

-- the object that is seen at a kept path has a short path
short_at : (row_at : Host) (mentions kept : List Mention) (mention : Mention) → AreShortRows row_at → KeepsByRules row_at mentions kept
    → AreWhole kept → Contains kept mention → HasShortHost (object_at kept mention.path)
short_at row_at mentions kept mention rows keeps whole among = by (origin_of kept mention.path) refl
  where
    own : is_whole mention ≡ true
    own = All-contains (λ other. is_whole other ≡ true) kept mention (All-from_recursion (λ other. is_whole other ≡ true) kept whole) among

    own_short : length (tail_of mention.path) ≤ 512
    own_short = short_path mention.path (and_parts (is_path mention.path) (has_whole_source mention.kind) own).0

    from : (one : ℕ × Mention) → origin_of kept mention.path ≡ Some one → is_whole one.1 ≡ true → is_prefix one.1.path mention.path ≡ true
        → (kind : Kind) → one.1.kind ≡ kind → HasShortHost (object_by kind one.1.path mention.path)
    from one e all leads Hide k = tt
    from one e all leads (Tmp read_only no_exec no_suid) k = tt
    from one e all leads (Bind source read_only recursive) k = elim_same (is_same one.1.path mention.path) refl
      where
        elim_same : (b : Bool) → is_same one.1.path mention.path ≡ b → length (tail_of (source ++ rest_of one.1.path mention.path)) ≤ 512
        elim_same true same =
            let rest : rest_of one.1.path mention.path ≡ [] = ap (λ p. rest_of p mention.path) (same_path one.1.path mention.path same) ∙ rest_of_itself mention.path in
            subst (λ (p : Path). length (tail_of p) ≤ 512) (sym (ap (λ rest. source ++ rest) rest ∙ append-nil source))
            (short_path source (ap has_whole_source (sym k) ∙ (and_parts (is_path one.1.path) (has_whole_source one.1.kind) all).1))
        elim_same false apart =
            let over : is_below mention.path one.1.path ≡ true = and_from (is_prefix one.1.path mention.path) (not (is_same one.1.path mention.path)) leads (ap not apart) in
            let row = bound_row row_at mentions kept mention one source read_only recursive keeps among e over k in
            rows (source ++ rest_of one.1.path mention.path) row.0 row.1
    from one e all leads _ k = own_short

    by : (o : Option (ℕ × Mention)) → origin_of kept mention.path ≡ o → HasShortHost (object_from o mention.path)
    by None e = own_short
    by (Some one) e =
        let decides = origin_is (λ other. is_whole other ≡ true) kept mention.path one whole e in
        from one e decides.0 decides.1 one.1.kind refl

-- the object that is seen at each place has a short path
pub short_places : (row_at : Host) (mentions kept : List Mention) → AreShortRows row_at → AreWhole mentions → AreNormal mentions
    → LeaveTheRoot mentions → kept_of row_at mentions ≡ Ok kept → HaveShortHosts kept (places_of kept)
short_places row_at mentions kept rows whole normal leave e =
    All-from_recursion (λ place. HasShortHost (object_at kept place)) (places_of kept)
    (in_byte_order_is (λ place. HasShortHost (object_at kept place)) ([] ∷ paths_of kept) (
      subst HasShortHost (sym (root_on_host kept
          (kept_is (λ mention. mention.path ≡ [] → is_origin mention.kind ≡ false) row_at mentions kept leave e))) (omega arith),
      all_mapped (λ mention. mention.path) (λ place. HasShortHost (object_at kept place)) kept
          (all_weaker (Contains kept) (λ mention. HasShortHost (object_at kept mention.path)) kept
          (λ mention among. short_at row_at mentions kept mention rows (keeps_by_rules row_at mentions kept normal e)
          (kept_is (λ mention. is_whole mention ≡ true) row_at mentions kept whole e) among)
          (recursion_from_All (Contains kept) kept (All-contains_itself kept))),
    ))
