-- On the table of the made entries each path belongs to an entry with the view of that path.
use Rattle.std.proofs.Common.{◌≡◌, ◌⊎◌, inl, inr, ℕ, ◌+◌, Bool, true, false, cond, List, [], ◌∷◌, filter, map, find, length, Option}
use Rattle.std.proofs.Common.{Some, None, refl, sym, ap, ◌∙◌, subst, length-append, arith}
use Rattle.std.specs.Prelude.{◌&&◌, ◌||◌, nat_le, not}
use Rattle.std.specs.List.{AllByRecursion, last_or, list_all}
use Rattle.std.proofs.lemmas.Bool.{false≢true, and_parts, and_from}
use Rattle.std.proofs.lemmas.Bool.Decides.{nat_tests}
use Rattle.path_settings.specs.abs_path.Paths.{Path, tail_of}
use Rattle.path_settings.specs.abs_path.Prefix.{is_prefix, is_same, rest_of}
use Rattle.path_settings.specs.abs_path.ByteOrder.{is_before, AreAscending}
use Rattle.path_settings.proofs.OfAbsPath.ByteOrder.{before_trans, not_before_itself, prefix_before, text_then_rest}
use Rattle.path_settings.proofs.OfAbsPath.Prefixes.{prefix_chain, prefix_itself, same_path}
use Rattle.path_settings.specs.declared.systemd.entries.MountEntry.{MountEntry}
use Rattle.path_settings.specs.systemd.Made.{is_longest_such, longest_such}
use Rattle.path_settings.specs.systemd.View.{leads_to}
use Rattle.path_settings.proofs.ViewMapLists.{all_from_test, all_weaker, mapped_all}
use Rattle.mount_plan.proofs.ShortPaths.{above_shorter, not_longer}

-- an entry is one of a list
abbrev pub IsOneOf : List MountEntry → MountEntry → Type 0
IsOneOf [] one = ⊥
IsOneOf (first ∷ some) one = (first ≡ one) ⊎ IsOneOf some one

pub has_one : (P : MountEntry → Type 0) (some : List MountEntry) (one : MountEntry) → AllByRecursion P some → IsOneOf some one → P one
has_one P [] one each among = absurd among
has_one P (first ∷ some) one each among = elim among [
  | inl same ↦ subst P same each.0
  | inr later ↦ has_one P some one each.1 later
]

-- each element of a list is one of them
pub all_one_of : (some : List MountEntry) → AllByRecursion (IsOneOf some) some
all_one_of [] = tt
all_one_of (one ∷ some) = (inl refl, all_weaker (IsOneOf some) (IsOneOf (one ∷ some)) some (λ other among. inr among) (all_one_of some))

-- the last of the entries that lead to a path: each other one leads to it, and no other one is at its path
abbrev pub last_leading : List MountEntry → Path → Option MountEntry
last_leading some path = last_or None (filter (leads_to path) some)

abbrev pub IsOver : Path → MountEntry → MountEntry → Type 0
IsOver path last other = is_prefix other.path path ≡ true → (is_prefix other.path last.path ≡ true) × (other.path ≡ last.path → other ≡ last)

pub record IsLast (path : Path) (some : List MountEntry) (last : MountEntry) : Type 0 where
  pub leads : is_prefix last.path path ≡ true
  pub among : IsOneOf some last
  pub each : AllByRecursion (IsOver path last) some

last_cases : (first last : MountEntry) (some : List MountEntry) → last_or (Some first) some ≡ Some last
    → (last_or None some ≡ Some last) ⊎ ((some ≡ []) × (first ≡ last))
last_cases first last [] e = inr (refl, cc)
last_cases first last (next ∷ some) e = inl e

none_leads : (path : Path) (some : List MountEntry) → filter (leads_to path) some ≡ []
    → AllByRecursion (λ one. is_prefix one.path path ≡ false) some
none_leads path [] e = tt
none_leads path (one ∷ some) e = by (is_prefix one.path path) refl e (none_leads path some)
  where
    by : (b : Bool) → is_prefix one.path path ≡ b → cond b (one ∷ filter (leads_to path) some) (filter (leads_to path) some) ≡ []
        → (filter (leads_to path) some ≡ [] → AllByRecursion (λ other. is_prefix other.path path ≡ false) some)
        → (is_prefix one.path path ≡ false) × AllByRecursion (λ other. is_prefix other.path path ≡ false) some
    by true is e more = let bad : ⊥ = cc in absurd bad
    by false is e more = (is, more e)

-- of two paths that lead to a third, the earlier one leads to the later one
earlier_leads : (one other path : Path) → is_before one other ≡ true → is_prefix one path ≡ true → is_prefix other path ≡ true
    → is_prefix one other ≡ true
earlier_leads one other path before h g = elim (prefix_chain one other path h g) [
  | inl leads ↦ leads
  | inr back ↦ elim (prefix_before other one back) [
    | inl same ↦ subst (λ (p : Path). is_prefix one p ≡ true) (sym same) (prefix_itself one)
    | inr after ↦ absurd (false≢true (sym (not_before_itself one) ∙ before_trans one other one before after))
  ]
]

not_over : (path : Path) (last : MountEntry) (some : List MountEntry) → AllByRecursion (λ one. is_prefix one.path path ≡ false) some
    → AllByRecursion (IsOver path last) some
not_over path last [] none = tt
not_over path last (one ∷ some) none = ((λ leads. absurd (false≢true (sym none.0 ∙ leads))), not_over path last some none.1)

pub is_last : (path : Path) (some : List MountEntry) (last : MountEntry) → AreAscending (map (λ one. one.path) some)
    → last_leading some path ≡ Some last → IsLast path some last
is_last path [] last up e = let bad : ⊥ = cc in absurd bad
is_last path (first ∷ some) last up e = by (is_prefix first.path path) refl e (is_last path some last up.1)
  where
    skipped : is_prefix first.path path ≡ false → IsLast path some last → IsLast path (first ∷ some) last
    skipped apart rest = record {
      leads = rest.leads;
      among = inr rest.among;
      each = ((λ leads. absurd (false≢true (sym apart ∙ leads))), rest.each);
    }

    before : IsLast path some last → is_before first.path last.path ≡ true
    before rest = has_one (λ one. is_before first.path one.path ≡ true) some last
        (mapped_all (λ (one : MountEntry). one.path) (λ other. is_before first.path other ≡ true) some up.0) rest.among

    followed : is_prefix first.path path ≡ true → IsLast path some last → IsLast path (first ∷ some) last
    followed leads' rest = record {
      leads = rest.leads;
      among = inr rest.among;
      each = (
        (λ leads. (
          earlier_leads first.path last.path path (before rest) leads rest.leads,
          λ same. absurd (false≢true (sym (not_before_itself first.path)
              ∙ subst (λ (p : Path). is_before first.path p ≡ true) (sym same) (before rest))),
        )),
        rest.each,
      );
    }

    ended : is_prefix first.path path ≡ true → filter (leads_to path) some ≡ [] → first ≡ last → IsLast path (first ∷ some) last
    ended leads' none same = record {
      leads = subst (λ (one : MountEntry). is_prefix one.path path ≡ true) same leads';
      among = inl same;
      each = (
        (λ leads. (subst (λ (one : MountEntry). is_prefix first.path one.path ≡ true) same (prefix_itself first.path), λ at. same)),
        not_over path last some (none_leads path some none),
      );
    }

    by : (b : Bool) → is_prefix first.path path ≡ b
        → last_or None (cond b (first ∷ filter (leads_to path) some) (filter (leads_to path) some)) ≡ Some last
        → (last_leading some path ≡ Some last → IsLast path some last) → IsLast path (first ∷ some) last
    by false apart e more = skipped apart (more e)
    by true leads' e more = elim (last_cases first last (filter (leads_to path) some) e) [
      | inl later ↦ followed leads' (more later)
      | inr here ↦ ended leads' here.0 here.1
    ]

-- ---- the last is the longest
-- a path that leads to another is not longer
pub no_longer : (one other : Path) → is_prefix one other ≡ true → nat_le (length (tail_of one)) (length (tail_of other)) ≡ true
no_longer one other leads = le (length (tail_of one)) (length (tail_of (rest_of one other))) (length (tail_of other))
    (ap length (text_then_rest one other leads) ∙ length-append (tail_of one) (tail_of (rest_of one other)))
  where
    le : (a b n : ℕ) → n ≡ a + b → nat_le a n ≡ true
    le a b n e = grind (arith, nat_tests)

-- and if it is as long, it is the same
pub as_long : (one other : Path) → is_prefix one other ≡ true → nat_le (length (tail_of other)) (length (tail_of one)) ≡ true → one ≡ other
as_long one other leads long = by (is_same one other) refl
  where
    by : (b : Bool) → is_same one other ≡ b → one ≡ other
    by true same = same_path one other same
    by false same = absurd (not_longer (length (tail_of other)) (length (tail_of one))
        (above_shorter one other (and_from _ _ leads (ap not same))) long)

find_one : (p : MountEntry → Bool) (some : List MountEntry) (one : MountEntry) → IsOneOf some one → p one ≡ true
    → AllByRecursion (λ other. p other ≡ true → other ≡ one) some → find p some ≡ Some one
find_one p [] one among passes each = absurd among
find_one p (first ∷ some) one among passes each = by (p first) refl (λ later. find_one p some one later passes each.1)
  where
    by : (b : Bool) → p first ≡ b → (IsOneOf some one → find p some ≡ Some one) → cond b (Some first) (find p some) ≡ Some one
    by true is more = ap Some (each.0 is)
    by false is more = elim among [
      | inl same ↦ absurd (false≢true (sym is ∙ subst (λ (other : MountEntry). p other ≡ true) (sym same) passes))
      | inr later ↦ more later
    ]

pub find_none : (p : MountEntry → Bool) (some : List MountEntry) → AllByRecursion (λ one. p one ≡ false) some → find p some ≡ None
find_none p [] none = refl
find_none p (first ∷ some) none = ap (λ b. cond b (Some first) (find p some)) none.0 ∙ find_none p some none.1

abbrev is_no_longer : Path → MountEntry → MountEntry → Bool
is_no_longer path one other = not (leads_to path other) || nat_le (length (tail_of other.path)) (length (tail_of one.path))

all_shorter : (path : Path) (last : MountEntry) (some : List MountEntry) → AllByRecursion (IsOver path last) some
    → list_all (is_no_longer path last) some ≡ true
all_shorter path last [] each = refl
all_shorter path last (other ∷ some) each =
    and_from _ _ (by (is_prefix other.path path) refl) (all_shorter path last some each.1)
  where
    by : (b : Bool) → is_prefix other.path path ≡ b
        → (not b || nat_le (length (tail_of other.path)) (length (tail_of last.path))) ≡ true
    by true leads = no_longer other.path last.path (each.0 leads).0
    by false leads = refl

pub not_then : (a b : Bool) → a ≡ true → (not a || b) ≡ true → b ≡ true
not_then true b is h = h
not_then false b is h = absurd (false≢true is)

-- an entry that is as long as each that leads to the path is the last one
only_last : (path : Path) (whole some : List MountEntry) (last : MountEntry) → IsLast path whole last
    → AllByRecursion (IsOver path last) some
    → AllByRecursion (λ one. is_longest_such (leads_to path) whole one ≡ true → one ≡ last) some
only_last path whole [] last fits each = tt
only_last path whole (one ∷ some) last fits each = (
  (λ passes.
      let both = and_parts (is_prefix one.path path) (list_all (is_no_longer path one) whole) passes in
      let over = each.0 both.0 in
      let long = has_one (λ other. is_no_longer path one other ≡ true) whole last (all_from_test (is_no_longer path one) whole both.1) fits.among in
      over.1 (as_long one.path last.path over.0
      (not_then (is_prefix last.path path) (nat_le (length (tail_of last.path)) (length (tail_of one.path))) fits.leads long))),
  only_last path whole some last fits each.1,
)

none_longest : (path : Path) (whole some : List MountEntry) → AllByRecursion (λ one. is_prefix one.path path ≡ false) some
    → AllByRecursion (λ one. is_longest_such (leads_to path) whole one ≡ false) some
none_longest path whole [] none = tt
none_longest path whole (one ∷ some) none =
    (ap (λ b. b && list_all (is_no_longer path one) whole) none.0, none_longest path whole some none.1)

last_none : (first : MountEntry) (some : List MountEntry) → last_or (Some first) some ≡ None → ⊥
last_none first [] e = cc
last_none first (next ∷ some) e = last_none next some e

empty_last : (some : List MountEntry) → last_or None some ≡ None → some ≡ []
empty_last [] e = refl
empty_last (first ∷ some) e = absurd (last_none first some e)

-- in byte order the longest entry that leads to a path is the last one
pub longest_is_last : (path : Path) (some : List MountEntry) → AreAscending (map (λ one. one.path) some)
    → longest_such (leads_to path) some ≡ last_leading some path
longest_is_last path some up = by (last_leading some path) refl
  where
    by : (o : Option MountEntry) → last_leading some path ≡ o → longest_such (leads_to path) some ≡ o
    by None e = find_none (is_longest_such (leads_to path) some) some
        (none_longest path some some (none_leads path some (empty_last (filter (leads_to path) some) e)))
    by (Some last) e =
        let fits = is_last path some last up e in
        find_one (is_longest_such (leads_to path) some) some last fits.among
        (and_from _ _ fits.leads (all_shorter path last some fits.each)) (only_last path some some last fits fits.each)
