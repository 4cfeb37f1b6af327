-- The groups have one more group, and groups have members.
use Rattle.std.proofs.Common.{◌≡◌, ℕ, zero, suc, ◌+◌, ◌<◌, ◌≤◌, Bool, true, false, cond, List, [], ◌∷◌, ◌++◌, length, map, filter, Some}
use Rattle.std.proofs.Common.{None, ⊎_elim, ap, ◌∙◌, subst, arith}
use Rattle.std.specs.Prelude.{find}
use Rattle.std.specs.List.{list_any, enumerate_from, All, AllByRecursion}
use Rattle.std.specs.List.Sorted.{IsStrictlySortedBy}
use Rattle.std.specs.Ordering.{nat_cmp}
use Rattle.std.specs.declared.cmp.Ordering.TheVariants.{Less}
use Rattle.std.proofs.lemmas.Bool.Decides.{nat_tests}
use Rattle.std.proofs.lemmas.List.Elements.{All-push}
use Rattle.std.proofs.lemmas.Map.Keys.{IsStrictlyIncreasing-from_sorted}
use Rattle.call_table.specs.declared.listed.CallLine.{CallLine}
use Rattle.call_table.specs.declared.listed.GroupLine.{GroupLine}
use Rattle.call_table.specs.Lookups.{group_named}
use Rattle.call_table.specs.Members.{has_group, is_member, members_of}
use Rattle.call_table.specs.Facts.{HasMembers, AreGroups}
use Rattle.call_table.proofs.Places.{get_push_cases, or_false}
use Rattle.call_table.proofs.Onces.{same_bytes}

find_stays : {X : Type 0} (p : X → Bool) (xs ys : List X) (x : X) → find p xs ≡ Some x → find p (xs ++ ys) ≡ Some x
find_stays p [] ys x e = cc
find_stays p (y ∷ xs) ys x e = by (p y) (find_stays p xs ys x) e
  where
    by : (b : Bool) → (find p xs ≡ Some x → find p (xs ++ ys) ≡ Some x) → cond b (Some y) (find p xs) ≡ Some x
        → cond b (Some y) (find p (xs ++ ys)) ≡ Some x
    by true later e = e
    by false later e = later e

find_at_end : {X : Type 0} (p : X → Bool) (xs : List X) (y : X) → list_any p xs ≡ false → p y ≡ true → find p (xs ++ y ∷ []) ≡ Some y
find_at_end p [] y none here = ap (λ b. cond b (Some y) None) here
find_at_end p (x ∷ xs) y none here =
    let both = or_false (p x) (list_any p xs) none in
    ap (λ b. cond b (Some x) (find p (xs ++ y ∷ []))) both.0 ∙ find_at_end p xs y both.1 here

pub groups_push : (count : ℕ) (groups : List GroupLine) (group : GroupLine) → AreGroups count groups
    → list_any (has_group group.name) groups ≡ false → HasMembers count group → AreGroups count (groups ++ group ∷ [])
groups_push count groups group h new_name members = record {
  by_name = λ at found e. ⊎_elim
      (λ there. find_stays (has_group found.name) groups (group ∷ []) found (h.by_name at found there))
      (λ here. subst (λ (g : GroupLine). group_named g.name (groups ++ group ∷ []) ≡ Some g) here.1
      (find_at_end (has_group group.name) groups group new_name (same_bytes group.name)))
      (get_push_cases groups group found at e);
  members = All-push (HasMembers count) groups group h.members members;
}

-- more calls leave the groups sound
pub groups_wider : (count more : ℕ) (groups : List GroupLine) → count ≤ more → AreGroups count groups → AreGroups more groups
groups_wider count more groups le h = record {
  by_name = h.by_name;
  members = λ at d lt. let group = h.members at d lt in record { below = λ k e below. let small = group.below k e below in omega arith; ascending = group.ascending };
}

pub no_groups : (count : ℕ) → AreGroups count []
no_groups count = record { by_name = λ at group e. cc; members = λ at d lt. absurd (omega arith) }

-- positions that are picked in order
above : (n : ℕ) (calls : List CallLine) (test : ℕ × CallLine → Bool) (low : ℕ) → low < n
    → AllByRecursion (λ position. nat_cmp low position ≡ Less)
    (map (λ (call : ℕ × CallLine). call.0) (filter test (enumerate_from n calls)))
above n [] test low lt = tt
above n (call ∷ calls) test low lt = by (test (n, call)) (above (n + 1) calls test low (omega arith))
  where
    by : (b : Bool) → AllByRecursion (λ position. nat_cmp low position ≡ Less)
        (map (λ (c : ℕ × CallLine). c.0) (filter test (enumerate_from (n + 1) calls)))
        → AllByRecursion (λ position. nat_cmp low position ≡ Less)
        (map (λ (c : ℕ × CallLine). c.0)
        (cond b ((n, call) ∷ filter test (enumerate_from (n + 1) calls)) (filter test (enumerate_from (n + 1) calls))))
    by true h = (grind (arith, nat_tests), h)
    by false h = h

in_order : (n : ℕ) (calls : List CallLine) (test : ℕ × CallLine → Bool)
    → IsStrictlySortedBy nat_cmp (map (λ (call : ℕ × CallLine). call.0) (filter test (enumerate_from n calls)))
unfolding IsStrictlySortedBy
in_order n [] test = tt
in_order n (call ∷ calls) test = by (test (n, call)) (in_order (n + 1) calls test) (above (n + 1) calls test n (omega arith))
  where
    by : (b : Bool) → IsStrictlySortedBy nat_cmp (map (λ (c : ℕ × CallLine). c.0) (filter test (enumerate_from (n + 1) calls)))
        → AllByRecursion (λ position. nat_cmp n position ≡ Less)
        (map (λ (c : ℕ × CallLine). c.0) (filter test (enumerate_from (n + 1) calls)))
        → IsStrictlySortedBy nat_cmp
        (map (λ (c : ℕ × CallLine). c.0)
        (cond b ((n, call) ∷ filter test (enumerate_from (n + 1) calls)) (filter test (enumerate_from (n + 1) calls))))
    by true h low = (low, h)
    by false h low = h

all_below : (n : ℕ) (calls : List CallLine) (test : ℕ × CallLine → Bool)
    → All (λ position. position < n + length calls) (map (λ (call : ℕ × CallLine). call.0) (filter test (enumerate_from n calls)))
all_below n [] test = λ k d lt. absurd (omega arith)
all_below n (call ∷ calls) test = by (test (n, call)) (all_below (n + 1) calls test)
  where
    by : (b : Bool) → All (λ position. position < n + 1 + length calls)
        (map (λ (c : ℕ × CallLine). c.0) (filter test (enumerate_from (n + 1) calls)))
        → All (λ position. position < n + length (call ∷ calls))
        (map (λ (c : ℕ × CallLine). c.0)
        (cond b ((n, call) ∷ filter test (enumerate_from (n + 1) calls)) (filter test (enumerate_from (n + 1) calls))))
    by true h zero d lt = omega arith
    by true h (suc k) d lt = let small = h k d (omega arith) in omega arith
    by false h k d lt = let small = h k d lt in omega arith

pub has_members : (calls : List CallLine) (groups : List GroupLine) (words : List (List ℕ)) (name : List ℕ)
    → HasMembers (length calls) (record { name = name; members = members_of calls groups words })
has_members calls groups words name = record {
  below = λ k d lt. let small = all_below 0 calls (is_member calls groups words) k d lt in omega arith;
  ascending = IsStrictlyIncreasing-from_sorted (members_of calls groups words) (in_order 0 calls (is_member calls groups words));
}
