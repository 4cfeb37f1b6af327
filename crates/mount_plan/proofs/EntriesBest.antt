-- The best entries of a list, by an order that compares any two, and entries that are among the picked ones.
use Rattle.std.proofs.Common.{◌≡◌, inl, inr, ℕ, Bool, true, false, cond, List, [], ◌∷◌, ◌++◌, filter, find, length, map, Option, Some, None}
use Rattle.std.proofs.Common.{refl, sym, ap, ◌∙◌, subst, arith}
use Rattle.std.specs.Prelude.{◌||◌, nat_le, not}
use Rattle.std.specs.List.{AllByRecursion, cons_option, filter_map, list_all}
use Rattle.std.proofs.lemmas.Bool.{false≢true, and_parts, and_from}
use Rattle.std.proofs.lemmas.Bool.Decides.{nat_tests}
use Rattle.path_settings.specs.abs_path.Paths.{Path, tail_of}
use Rattle.path_settings.specs.abs_path.ByteOrder.{is_before, AreAscending}
use Rattle.path_settings.specs.abs_path.Prefix.{is_same}
use Rattle.path_settings.specs.declared.systemd.entries.MountEntry.{MountEntry}
use Rattle.path_settings.specs.systemd.Modes.{rank}
use Rattle.path_settings.specs.systemd.Chosen.{is_strongest_at, chosen_at}
use Rattle.path_settings.specs.systemd.Made.{is_longest_such, longest_such}
use Rattle.path_settings.proofs.OfAbsPath.ByteOrder.{not_before_itself}
use Rattle.path_settings.proofs.ViewMapLists.{all_from_test, all_weaker, find_is, find_passes, mapped_all}
use Rattle.mount_plan.proofs.EntriesAsView.{IsOneOf, all_one_of, has_one, not_then}

-- ---- numbers
le_through : (a b c : ℕ) → nat_le a b ≡ true → nat_le b c ≡ true → nat_le a c ≡ true
le_through a b c h g = grind (arith, nat_tests)

le_back : (a b : ℕ) → nat_le a b ≡ false → nat_le b a ≡ true
le_back a b h = grind (arith, nat_tests)

le_itself : (n : ℕ) → nat_le n n ≡ true
le_itself n = grind (arith, nat_tests)

-- ---- members
pub in_front : (some more : List MountEntry) (one : MountEntry) → IsOneOf some one → IsOneOf (some ++ more) one
in_front [] more one among = absurd among
in_front (first ∷ some) more one among = elim among [
  | inl same ↦ inl same
  | inr later ↦ inr (in_front some more one later)
]

pub behind : (some more : List MountEntry) (one : MountEntry) → IsOneOf more one → IsOneOf (some ++ more) one
behind [] more one among = among
behind (first ∷ some) more one among = inr (behind some more one among)

pub filtered : (p : MountEntry → Bool) (some : List MountEntry) (one : MountEntry) → IsOneOf some one → p one ≡ true
    → IsOneOf (filter p some) one
filtered p [] one among passes = absurd among
filtered p (first ∷ some) one among passes = by (p first) refl (λ later. filtered p some one later passes)
  where
    by : (b : Bool) → p first ≡ b → (IsOneOf some one → IsOneOf (filter p some) one)
        → IsOneOf (cond b (first ∷ filter p some) (filter p some)) one
    by true is more = elim among [
      | inl same ↦ inl same
      | inr later ↦ inr (more later)
    ]
    by false is more = elim among [
      | inl same ↦ absurd (false≢true (sym is ∙ subst (λ (m : MountEntry). p m ≡ true) (sym same) passes))
      | inr later ↦ more later
    ]

-- what is picked for an element is among the picked ones
pub picked_among : {X : Type 0} (f : X → Option MountEntry) (some : List X)
    → AllByRecursion (λ x. (one : MountEntry) → f x ≡ Some one → IsOneOf (filter_map f some) one) some
picked_among f [] = tt
picked_among {X = X} f (x ∷ some) = (here (f x), later (f x) some (picked_among f some))
  where
    here : (o : Option MountEntry) → (one : MountEntry) → o ≡ Some one → IsOneOf (cons_option o (filter_map f some)) one
    here None one e = let bad : ⊥ = cc in absurd bad
    here (Some own) one e = let same : own ≡ one = cc in inl same

    later : (o : Option MountEntry) (rest : List X)
        → AllByRecursion (λ y. (one : MountEntry) → f y ≡ Some one → IsOneOf (filter_map f some) one) rest
        → AllByRecursion (λ y. (one : MountEntry) → f y ≡ Some one → IsOneOf (cons_option o (filter_map f some)) one) rest
    later o [] h = tt
    later None (y ∷ rest) h = (h.0, later None rest h.1)
    later (Some own) (y ∷ rest) h = ((λ one e. inr (h.0 one e)), later (Some own) rest h.1)

-- of entries in byte order only one is at a path
pub only_there : (some : List MountEntry) → AreAscending (map (λ one. one.path) some) → (one other : MountEntry) → IsOneOf some one
    → IsOneOf some other → one.path ≡ other.path → one ≡ other
only_there [] up one other among also at = absurd among
only_there (first ∷ some) up one other among also at =
    let later : AllByRecursion (λ m. is_before first.path m.path ≡ true) some =
    mapped_all (λ (m : MountEntry). m.path) (λ path. is_before first.path path ≡ true) some up.0 in
    elim among [
      | inl here ↦ elim also [
        | inl there ↦ sym here ∙ there
        | inr after ↦ absurd (apart other (ap (λ (m : MountEntry). m.path) here ∙ at)
            (has_one (λ m. is_before first.path m.path ≡ true) some other later after))
      ]
      | inr after ↦ elim also [
        | inl there ↦ absurd (apart one (ap (λ (m : MountEntry). m.path) there ∙ sym at)
            (has_one (λ m. is_before first.path m.path ≡ true) some one later after))
        | inr also_after ↦ only_there some up.1 one other after also_after at
      ]
    ]
  where
    apart : (m : MountEntry) → first.path ≡ m.path → is_before first.path m.path ≡ true → ⊥
    apart m same before = false≢true (sym (not_before_itself first.path)
        ∙ subst (λ (p : Path). is_before first.path p ≡ true) (sym same) before)

-- ---- what is found
-- if nothing is found, nothing passes
pub found_none : (p : MountEntry → Bool) (some : List MountEntry) → find p some ≡ None → AllByRecursion (λ one. p one ≡ false) some
found_none p [] e = tt
found_none p (first ∷ some) e = by (p first) refl e (found_none p some)
  where
    by : (b : Bool) → p first ≡ b → cond b (Some first) (find p some) ≡ None
        → (find p some ≡ None → AllByRecursion (λ one. p one ≡ false) some) → (p first ≡ false) × AllByRecursion (λ one. p one ≡ false) some
    by true is e more = let bad : ⊥ = cc in absurd bad
    by false is e more = (is, more e)

pub finds_some : (p : MountEntry → Bool) (some : List MountEntry) (one : MountEntry) → IsOneOf some one → p one ≡ true
    → find p some ≡ None → ⊥
finds_some p some one among passes e = false≢true (sym (has_one (λ m. p m ≡ false) some one (found_none p some e) among) ∙ passes)

-- if an entry in front passes, what is found is in front
pub found_in_front : (p : MountEntry → Bool) (some more : List MountEntry) (one found : MountEntry) → IsOneOf some one → p one ≡ true
    → find p (some ++ more) ≡ Some found → IsOneOf some found
found_in_front p [] more one found among passes e = absurd among
found_in_front p (first ∷ some) more one found among passes e = by (p first) refl e
    (λ later. found_in_front p some more one found later passes)
  where
    by : (b : Bool) → p first ≡ b → cond b (Some first) (find p (some ++ more)) ≡ Some found
        → (IsOneOf some one → find p (some ++ more) ≡ Some found → IsOneOf some found) → IsOneOf (first ∷ some) found
    by true is e on = let same : first ≡ found = cc in inl same
    by false is e on = elim among [
      | inl same ↦ absurd (false≢true (sym is ∙ subst (λ (m : MountEntry). p m ≡ true) (sym same) passes))
      | inr later ↦ inr (on later e)
    ]

-- what a wider test finds a narrower one finds too
pub found_by_less : (p q : MountEntry → Bool) (some : List MountEntry) (found : MountEntry) → find p some ≡ Some found → q found ≡ true
    → AllByRecursion (λ one. q one ≡ true → p one ≡ true) some → find q some ≡ Some found
found_by_less p q [] found e passes each = let bad : ⊥ = cc in absurd bad
found_by_less p q (first ∷ some) found e passes each = by (p first) (q first) refl each.0 e
    (λ more. found_by_less p q some found more passes each.1)
  where
    by : (b c : Bool) → q first ≡ c → (c ≡ true → b ≡ true) → cond b (Some first) (find p some) ≡ Some found
        → (find p some ≡ Some found → find q some ≡ Some found) → cond c (Some first) (find q some) ≡ Some found
    by true true is less e more = e
    by true false is less e more =
        let same : first ≡ found = cc in
        absurd (false≢true (sym is ∙ subst (λ (m : MountEntry). q m ≡ true) (sym same) passes))
    by false true is less e more = absurd (false≢true (less refl))
    by false false is less e more = more e

-- ---- the best of some
abbrev IsBetter : (MountEntry → MountEntry → Bool) → (MountEntry → Bool) → MountEntry → MountEntry → Type 0
IsBetter le test one other = test other ≡ true → le one other ≡ true

pub data Best (le : MountEntry → MountEntry → Bool) (test : MountEntry → Bool) (some : List MountEntry) : Type 0 where
  no_one : AllByRecursion (λ one. test one ≡ false) some → Best le test some
  the_one : (one : MountEntry) → IsOneOf some one → test one ≡ true → AllByRecursion (IsBetter le test one) some → Best le test some

-- an order that compares any two
pub record IsOrder (le : MountEntry → MountEntry → Bool) : Type 0 where
  pub itself : (one : MountEntry) → le one one ≡ true
  pub through : (one two three : MountEntry) → le one two ≡ true → le two three ≡ true → le one three ≡ true
  pub back : (one two : MountEntry) → le one two ≡ false → le two one ≡ true

module _ (le : MountEntry → MountEntry → Bool) (order : IsOrder le) (test : MountEntry → Bool) where
  none_better : (one : MountEntry) (some : List MountEntry) → AllByRecursion (λ other. test other ≡ false) some
      → AllByRecursion (IsBetter le test one) some
  none_better one [] none = tt
  none_better one (other ∷ some) none = ((λ passes. absurd (false≢true (sym none.0 ∙ passes))), none_better one some none.1)

  still_better : (one other : MountEntry) → le one other ≡ true → (some : List MountEntry) → AllByRecursion (IsBetter le test other) some
      → AllByRecursion (IsBetter le test one) some
  still_better one other is [] each = tt
  still_better one other is (next ∷ some) each =
      ((λ passes. order.through one other next is (each.0 passes)), still_better one other is some each.1)

  pub best : (some : List MountEntry) → Best le test some
  best [] = no_one tt
  best (first ∷ some) = by (test first) refl (best some)
    where
      compare : (b : Bool) (one : MountEntry) → le first one ≡ b → test first ≡ true → IsOneOf some one → test one ≡ true
          → AllByRecursion (IsBetter le test one) some → Best le test (first ∷ some)
      compare true one is here among passes each =
          the_one first (inl refl) here ((λ _. order.itself first), still_better first one is some each)
      compare false one is here among passes each = the_one one (inr among) passes ((λ _. order.back first one is), each)

      by : (b : Bool) → test first ≡ b → Best le test some → Best le test (first ∷ some)
      by false is (no_one none) = no_one (is, none)
      by false is (the_one one among passes each) = the_one one (inr among) passes ((λ h. absurd (false≢true (sym is ∙ h))), each)
      by true is (no_one none) = the_one first (inl refl) is ((λ _. order.itself first), none_better first some none)
      by true is (the_one one among passes each) = compare (le first one) one refl is among passes each

all_or : (test : MountEntry → Bool) (le : MountEntry → Bool) (some : List MountEntry)
    → AllByRecursion (λ other. test other ≡ true → le other ≡ true) some → list_all (λ other. not (test other) || le other) some ≡ true
all_or test le [] each = refl
all_or test le (other ∷ some) each = and_from _ _ (by (test other) (le other) each.0) (all_or test le some each.1)
  where
    by : (b c : Bool) → (b ≡ true → c ≡ true) → (not b || c) ≡ true
    by true c h = h refl
    by false c h = refl

-- if an entry is at a path, one is chosen there
pub one_is_chosen : (entries : List MountEntry) (path : Path) (one : MountEntry) → IsOneOf entries one → is_same one.path path ≡ true
    → chosen_at entries path ≡ None → ⊥
one_is_chosen entries path one among at e = by (best stronger (record {
  itself = λ m. le_itself (rank m.mode);
  through = λ one two three. le_through (rank one.mode) (rank two.mode) (rank three.mode);
  back = λ one two. le_back (rank one.mode) (rank two.mode);
}) (λ m. is_same m.path path) entries)
  where
    stronger : MountEntry → MountEntry → Bool
    stronger m other = nat_le (rank m.mode) (rank other.mode)

    by : Best stronger (λ m. is_same m.path path) entries → ⊥
    by (no_one none) = false≢true (sym (has_one (λ m. is_same m.path path ≡ false) entries one none among) ∙ at)
    by (the_one least own there each) = finds_some (is_strongest_at entries path) entries least own
        (and_from _ _ there (all_or (λ m. is_same m.path path) (stronger least) entries each)) e

-- ---- the longest of some
abbrev length_of : MountEntry → ℕ
length_of one = length (tail_of one.path)

-- if an entry passes, there is a longest one
pub one_is_longest : (test : MountEntry → Bool) (some : List MountEntry) (one : MountEntry) → IsOneOf some one → test one ≡ true
    → longest_such test some ≡ None → ⊥
one_is_longest test some one among passes e = by (best longer (record {
  itself = λ m. le_itself (length_of m);
  through = λ one two three h g. le_through (length_of three) (length_of two) (length_of one) g h;
  back = λ one two. le_back (length_of two) (length_of one);
}) test some)
  where
    longer : MountEntry → MountEntry → Bool
    longer m other = nat_le (length_of other) (length_of m)

    by : Best longer test some → ⊥
    by (no_one none) = false≢true (sym (has_one (λ m. test m ≡ false) some one none among) ∙ passes)
    by (the_one most own there each) =
        finds_some (is_longest_such test some) some most own (and_from _ _ there (all_or test (longer most) some each)) e

-- an entry is as long as each that passes, if it is as long as the longest
pub is_longest : (test : MountEntry → Bool) (some : List MountEntry) (found one : MountEntry)
    → is_longest_such test some found ≡ true → test one ≡ true → nat_le (length_of found) (length_of one) ≡ true
    → is_longest_such test some one ≡ true
is_longest test some found one longest passes long =
    and_from _ _ passes (all_or test (λ other. nat_le (length_of other) (length_of one)) some (each some
    (all_from_test (λ other. not (test other) || nat_le (length_of other) (length_of found)) some (and_parts _ _ longest).1)))
  where
    each : (rest : List MountEntry)
        → AllByRecursion (λ other. (not (test other) || nat_le (length_of other) (length_of found)) ≡ true) rest
        → AllByRecursion (λ other. test other ≡ true → nat_le (length_of other) (length_of one) ≡ true) rest
    each [] h = tt
    each (other ∷ rest) h = (
      (λ is. le_through (length_of other) (length_of found) (length_of one)
          (not_then (test other) (nat_le (length_of other) (length_of found)) is h.0) long),
      each rest h.1,
    )

-- the longest one is as long as each that passes
pub longest_over : (test : MountEntry → Bool) (some : List MountEntry) (found one : MountEntry) → is_longest_such test some found ≡ true
    → IsOneOf some one → test one ≡ true → nat_le (length_of one) (length_of found) ≡ true
longest_over test some found one longest among passes = not_then (test one) (nat_le (length_of one) (length_of found)) passes
    (has_one (λ other. (not (test other) || nat_le (length_of other) (length_of found)) ≡ true) some one
    (all_from_test (λ other. not (test other) || nat_le (length_of other) (length_of found)) some (and_parts _ _ longest).1) among)

-- what is the longest by a wider test is so by a narrower one
pub longest_by_less : (test less : MountEntry → Bool) (some : List MountEntry) (found : MountEntry)
    → ((one : MountEntry) → less one ≡ true → test one ≡ true) → longest_such test some ≡ Some found → less found ≡ true
    → longest_such less some ≡ Some found
longest_by_less test less some found weaker e passes =
    let longest = find_passes (is_longest_such test some) some found e in
    let among = find_is (IsOneOf some) (is_longest_such test some) some found (all_one_of some) e in
    found_by_less (is_longest_such test some) (is_longest_such less some) some found e
    (and_from _ _ passes (all_or less (λ other. nat_le (length_of other) (length_of found)) some
    (all_weaker (IsOneOf some) (λ other. less other ≡ true → nat_le (length_of other) (length_of found) ≡ true) some
    (λ other own is. longest_over test some found other longest own (weaker other is)) (all_one_of some))))
    (all_weaker (IsOneOf some) (λ one. is_longest_such less some one ≡ true → is_longest_such test some one ≡ true) some
    (λ one own is. is_longest test some found one longest (weaker one (and_parts _ _ is).0)
    (longest_over less some one found is among passes)) (all_one_of some))
