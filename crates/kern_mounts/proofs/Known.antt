-- What the tree of places knows of a table: the places of its first entries.
use Rattle.std.proofs.Common.{◌≡◌, ◌<◌, ◌≤◌, ◌+◌, inl, inr, ℕ, zero, suc, true, false, List, [], ◌∷◌, ◌++◌, length, length-append, take}
use Rattle.std.proofs.Common.{get_or, get_or-take, length-take-le, Option, Some, None, refl, sym, ap, ◌∙◌, subst, arith}
use Rattle.std.specs.List.{AllWithin}
use Rattle.std.proofs.lemmas.Bool.{cases_lt}
use Rattle.std.proofs.lemmas.List.{length-map, take-map}
use Rattle.abs_path.specs.Paths.{Path}
use Rattle.abs_path.specs.Prefix.{is_prefix}
use Rattle.abs_path.specs.place_tree.Places.{IsLastAt, IsLastLeading}
use Rattle.kern_mounts.specs.declared.step.MountStep.{MountStep}
use Rattle.kern_mounts.specs.declared.step.Mount.{Mount}
use Rattle.kern_mounts.specs.Mounts.{Mounts, steps_of}
use Rattle.kern_mounts.specs.Table.{places_of, Knows}
use Rattle.kern_mounts.proofs.Mounts.{steps_append, steps_long, steps_take}

-- no place from this number on leads to the path
abbrev pub NoneBehind : List Path → ℕ → Path → Type 0
NoneBehind places count path = AllWithin (λ place. is_prefix place path ≡ false) places count (length places)

take_long : {X : Type 0} (xs : List X) (n i : ℕ) → i < length (take n xs) → (i < n) × (i < length xs)
take_long xs zero i lt = absurd (omega arith)
take_long [] (suc n) i lt = absurd (omega arith)
take_long (x ∷ xs) (suc n) zero lt = (omega arith, omega arith)
take_long (x ∷ xs) (suc n) (suc i) lt = let both = take_long xs n i (omega arith) in (omega (arith, both.0), omega (arith, both.1))

take_below : {X : Type 0} (xs : List X) (n i : ℕ) → i < n → i < length xs → i < length (take n xs)
take_below xs zero i lt in' = absurd (omega arith)
take_below [] (suc n) i lt in' = absurd (omega arith)
take_below (x ∷ xs) (suc n) zero lt in' = omega arith
take_below (x ∷ xs) (suc n) (suc i) lt in' = let below = take_below xs n i (omega arith) (omega arith) in omega (arith, below)

-- the last that leads among the first is the last of all
last_of_first : (places : List Path) (count : ℕ) (path : Path) (number : Option ℕ) → NoneBehind places count path
    → IsLastLeading (take count places) path number → IsLastLeading places path number
last_of_first places count path None none h =
    λ k d low high. elim (cases_lt k count) [
      | inl first ↦ ap (λ (p : Path). is_prefix p path) (sym (get_or-take count places k d first))
          ∙ h k d low (take_below places count k first high)
      | inr behind ↦ none k d (omega arith) high
    ]
last_of_first places count path (Some at) none h =
    let both = take_long places count at h.in_range in
    record {
      in_range = both.1;
      is_of = λ d. ap (λ (p : Path). is_prefix p path) (sym (get_or-take count places at d both.0)) ∙ h.is_of d;
      none_later = λ k d low high. elim (cases_lt k count) [
        | inl first ↦ ap (λ (p : Path). is_prefix p path) (sym (get_or-take count places k d first))
            ∙ h.none_later k d low (take_below places count k first high)
        | inr behind ↦ none k d (omega arith) high
      ];
    }

-- what the tree finds where no entry behind those that it knows leads to the path
pub known_last : (table : List MountStep) (places : List Path) (count long : ℕ) (path : Path) (number : Option ℕ)
    → Knows count table places → long ≡ length table →
    AllWithin (λ place. is_prefix place path ≡ false) (places_of table) count long → IsLastLeading places path number
    → IsLastLeading (places_of table) path number
known_last table places count long path number knows is none h =
    let size : long ≡ length (places_of table) = is ∙ sym (length-map table (λ step. step.place)) in
    let first : places ≡ take count (places_of table) = knows.first ∙ sym (take-map (λ step. step.place) count table) in
    last_of_first (places_of table) count path number
    (subst (λ (n : ℕ). AllWithin (λ place. is_prefix place path ≡ false) (places_of table) count n) size none)
    (subst (λ (l : List Path). IsLastLeading l path number) first h)

front_stays : {X : Type 0} (xs ys : List X) (n : ℕ) → n ≤ length xs → take n (xs ++ ys) ≡ take n xs
front_stays xs ys zero le = refl
front_stays [] ys (suc n) le = absurd (omega arith)
front_stays (x ∷ xs) ys (suc n) le = ap (λ l. x ∷ l) (front_stays xs ys n (omega arith))

pub take_twice : {X : Type 0} (xs : List X) (n m : ℕ) → n ≤ m → take n (take m xs) ≡ take n xs
take_twice xs zero m le = refl
take_twice xs (suc n) zero le = absurd (omega arith)
take_twice [] (suc n) (suc m) le = refl
take_twice (x ∷ xs) (suc n) (suc m) le = ap (λ l. x ∷ l) (take_twice xs n m (omega arith))

-- the first entries where only those before a number stay for certain
front_of_both : (table rest : List MountStep) (n at : ℕ) → n ≤ at → at ≤ length table → take n (take at table ++ rest) ≡ take n table
front_of_both table rest n at le in' =
    let long = length-take-le at table in' in
    front_stays (take at table) rest n (omega arith) ∙ take_twice table n at le

-- entries at the same places
pub knows_same : (table next : List MountStep) (places : List Path) (count : ℕ) → Knows count table places
    → places_of next ≡ places_of table → Knows count next places
knows_same table next places count knows same =
    let one = length-map table (λ (step : MountStep). step.place) in
    let other = length-map next (λ (step : MountStep). step.place) in
    let long = ap length same in record {
      in_range = omega (arith, knows.in_range);
      first = knows.first ∙ sym (take-map (λ step. step.place) count table) ∙ ap (take count) (sym same)
          ∙ take-map (λ step. step.place) count next;
    }

-- where none of those that are known went
pub knows_still : (table rest : List MountStep) (places : List Path) (count at : ℕ) → Knows count table places → count ≤ at
    → at ≤ length table → Knows count (take at table ++ rest) places
knows_still table rest places count at knows le in' =
    let long = length-take-le at table in' in
    let sum = length-append (take at table) rest in record {
      in_range = omega arith;
      first = knows.first ∙ ap places_of (sym (front_of_both table rest count at le in'));
    }

-- and where some did
pub knows_less : (table rest : List MountStep) (places after : List Path) (count at left : ℕ) → Knows count table places → at ≤ count
    → left ≤ at → after ≡ take left places → Knows left (take at table ++ rest) after
knows_less table rest places after count at left knows le less is =
    let in' : at ≤ length table = omega (arith, knows.in_range) in
    let long = length-take-le at table in' in
    let sum = length-append (take at table) rest in record {
      in_range = omega arith;
      first = is ∙ ap (take left) knows.first ∙ take-map (λ step. step.place) left (take count table)
          ∙ ap places_of (take_twice table left count (omega arith))
          ∙ ap places_of (sym (front_of_both table rest left at less in'));
    }

-- the same of mounts
pub mounts_known : (mounts next rest : Mounts) (old places : List Path) (known count at : ℕ) →
    ((table rest : List MountStep) → Knows known table old → at ≤ length table → Knows count (take at table ++ rest) places) →
    Knows known (steps_of mounts) old → at < length mounts → next ≡ take at mounts ++ rest → Knows count (steps_of next) places
mounts_known mounts next rest old places known count at still knows lt is =
    let long = steps_long mounts in
    let front : take at (steps_of mounts) ++ steps_of rest ≡ steps_of next =
    ap (λ (t : List MountStep). t ++ steps_of rest) (steps_take at mounts) ∙ sym (steps_append (take at mounts) rest) ∙ sym (ap steps_of is) in
    subst (λ (t : List MountStep). Knows count t places) front (still (steps_of mounts) (steps_of rest) knows (omega arith))

-- ---- going over mounts from the last on

place_at : (mounts : Mounts) (at : ℕ) (mount : Mount) (d : Path) → at < length mounts → mount ≡ get_or mounts at mount
    → get_or (places_of (steps_of mounts)) at d ≡ mount.step.place
place_at [] at mount d lt e = absurd (omega arith)
place_at (first ∷ mounts) zero mount d lt e = ap (λ (m : Mount). m.step.place) (sym e)
place_at (first ∷ mounts) (suc at) mount d lt e = place_at mounts at mount d (omega arith) e

-- one more that does not lead to the path
pub none_from : (mounts : Mounts) (path : Path) (number at : ℕ) (mount : Mount) → number ≡ suc at → at < length mounts
    → mount ≡ get_or mounts at mount → is_prefix mount.step.place path ≡ false →
    AllWithin (λ place. is_prefix place path ≡ false) (places_of (steps_of mounts)) number (length mounts)
    → AllWithin (λ place. is_prefix place path ≡ false) (places_of (steps_of mounts)) at (length mounts)
none_from mounts path number at mount is lt e other none =
    λ k d low high. elim (cases_lt at k) [
      | inl behind ↦ none k d (omega arith) high
      | inr here ↦ (
          let same : k ≡ at = omega arith in
          ap (λ (n : ℕ). is_prefix (get_or (places_of (steps_of mounts)) n d) path) same
          ∙ ap (λ (p : Path). is_prefix p path) (place_at mounts at mount d lt e) ∙ other
          )
    ]

-- and one that does is the last
pub last_here : (mounts : Mounts) (path : Path) (number at : ℕ) (mount : Mount) → number ≡ suc at → at < length mounts
    → mount ≡ get_or mounts at mount → is_prefix mount.step.place path ≡ true →
    AllWithin (λ place. is_prefix place path ≡ false) (places_of (steps_of mounts)) number (length mounts)
    → IsLastAt (λ place. is_prefix place path) (places_of (steps_of mounts)) at
last_here mounts path number at mount is lt e leads none =
    let long = length-map (steps_of mounts) (λ (s : MountStep). s.place) in
    let size = steps_long mounts in
    record {
      in_range = omega arith;
      is_of = λ d. ap (λ (p : Path). is_prefix p path) (place_at mounts at mount d lt e) ∙ leads;
      none_later = λ k d low high. none k d (omega arith) (omega arith);
    }
