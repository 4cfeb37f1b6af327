-- The last place of a kind.
use Rattle.std.proofs.Common.{◌≡◌, ◌<◌, ◌≤◌, ◌+◌, ◌⊎◌, inl, inr, ℕ, zero, suc, Bool, true, false, cond, List, [], ◌∷◌, ◌++◌, length, get_or}
use Rattle.std.proofs.Common.{Option, Some, None, refl, sym, ap, ◌∙◌, subst, arith}
use Rattle.std.specs.Prelude.{◌||◌, ◌&&◌, max}
use Rattle.std.specs.Str.{bytes_eq}
use Rattle.std.specs.List.{AllWithin}
use Rattle.std.proofs.lemmas.Bool.{false≢true, cases_lt, and_parts, and_from}
use Rattle.abs_path.specs.Paths.{Path}
use Rattle.abs_path.specs.Prefix.{is_prefix, is_same}
use Rattle.abs_path.proofs.Prefixes.{same_part, same_itself}
use Rattle.abs_path.specs.place_tree.Places.{IsLastAt, IsLastOf, later, behind_or, last_at}

-- a kind that agrees with another on each place
pub same_kind : (kind other : Path → Bool) (places : List Path) (o : Option ℕ)
    → ((k : ℕ) (d : Path) → k < length places → other (get_or places k d) ≡ kind (get_or places k d)) →
    IsLastOf kind places o → IsLastOf other places o
same_kind kind other places None same h = λ k d low high. same k d high ∙ h k d low high
same_kind kind other places (Some at) same h = record {
  in_range = h.in_range;
  is_of = λ d. same at d h.in_range ∙ h.is_of d;
  none_later = λ k d low high. same k d high ∙ h.none_later k d low high;
}

or_false : (a b : Bool) → a ≡ false → b ≡ false → (a || b) ≡ false
or_false a b e f = let g : (a || b) ≡ (false || false) = ap (λ x. x || b) e ∙ ap (λ x. false || x) f in g

or_left : (a b : Bool) → a ≡ true → (a || b) ≡ true
or_left a b e = ap (λ x. x || b) e

or_right : (a b : Bool) → b ≡ true → (a || b) ≡ true
or_right true b e = refl
or_right false b e = e

-- the last place of either of two kinds is the later of the two last places
pub last_of_either : (kind other : Path → Bool) (places : List Path) (one two : Option ℕ) → IsLastOf kind places one
    → IsLastOf other places two → IsLastOf (λ place. kind place || other place) places (later one two)
last_of_either kind other places None None h g = λ k d low high. or_false _ _ (h k d low high) (g k d low high)
last_of_either kind other places None (Some at) h g = record {
  in_range = g.in_range;
  is_of = λ d. or_right (kind (get_or places at d)) _ (g.is_of d);
  none_later = λ k d low high. or_false _ _ (h k d (omega arith) high) (g.none_later k d low high);
}
last_of_either kind other places (Some at) None h g = record {
  in_range = h.in_range;
  is_of = λ d. or_left _ (other (get_or places at d)) (h.is_of d);
  none_later = λ k d low high. or_false _ _ (h.none_later k d low high) (g k d (omega arith) high);
}
last_of_either kind other places (Some at) (Some to) h g = elim (cases_lt at to) [
  | inl less ↦ (
      let greater : max at to ≡ to = omega arith in
      subst (λ (n : ℕ). IsLastAt (λ place. kind place || other place) places n) (sym greater) (record {
        in_range = g.in_range;
        is_of = λ d. or_right (kind (get_or places to d)) _ (g.is_of d);
        none_later = λ k d low high. or_false _ _ (h.none_later k d (omega arith) high) (g.none_later k d low high);
      })
      )
  | inr more ↦ (
      let greater : max at to ≡ at = omega arith in
      subst (λ (n : ℕ). IsLastAt (λ place. kind place || other place) places n) (sym greater) (record {
        in_range = h.in_range;
        is_of = λ d. or_left _ (other (get_or places at d)) (h.is_of d);
        none_later = λ k d low high. or_false _ _ (h.none_later k d low high) (g.none_later k d (omega arith) high);
      })
      )
]

-- the last place that is a path
pub last_same : (path : Path) (places : List Path) → IsLastOf (λ place. is_same place path) places (last_at path places)
last_same path [] = λ k d low high. absurd (omega arith)
last_same path (place ∷ places) = by (last_at path places) (last_same path places)
  where
    here : (b : Bool) → is_same place path ≡ b → AllWithin (λ place. is_same place path ≡ false) places 0 (length places)
        → IsLastOf (λ place. is_same place path) (place ∷ places) (cond b (Some 0) None)
    here true e none = record { in_range = omega arith; is_of = λ _. e; none_later = later_ones }
      where
        later_ones : (k : ℕ) (d : Path) → 0 + 1 ≤ k → k < length (place ∷ places) → is_same (get_or (place ∷ places) k d) path ≡ false
        later_ones zero d low high = absurd (omega arith)
        later_ones (suc k) d low high = none k d (omega arith) (omega arith)
    here false e none = all
      where
        all : (k : ℕ) (d : Path) → 0 ≤ k → k < length (place ∷ places) → is_same (get_or (place ∷ places) k d) path ≡ false
        all zero d low high = e
        all (suc k) d low high = none k d (omega arith) (omega arith)

    by : (o : Option ℕ) → IsLastOf (λ place. is_same place path) places o
        → IsLastOf (λ place. is_same place path) (place ∷ places) (behind_or o place path)
    by None none = here (is_same place path) refl none
    by (Some at) h = record { in_range = omega (arith, h.in_range); is_of = λ d. h.is_of d; none_later = later_ones }
      where
        later_ones : (k : ℕ) (d : Path) → suc at + 1 ≤ k → k < length (place ∷ places) → is_same (get_or (place ∷ places) k d) path ≡ false
        later_ones zero d low high = absurd (omega arith)
        later_ones (suc k) d low high = h.none_later k d (omega arith) (omega arith)

-- a place of the list is the last of its path, or a later place is
pub has_last : (places : List Path) (k : ℕ) (d : Path) → k < length places → (at : ℕ) × (last_at (get_or places k d) places ≡ Some at)
has_last places k d lt = by (last_at (get_or places k d) places) (last_same (get_or places k d) places)
  where
    by : (o : Option ℕ) → IsLastOf (λ place. is_same place (get_or places k d)) places o → (at : ℕ) × (o ≡ Some at)
    by (Some at) h = (at, refl)
    by None h = absurd (false≢true (sym (h k d (omega arith) lt) ∙ same_itself (get_or places k d)))

-- the list has one more place
pub last_push : (path : Path) (places : List Path) (place : Path)
    → last_at path (places ++ place ∷ []) ≡ cond (is_same place path) (Some (length places)) (last_at path places)
last_push path [] place = refl
last_push path (first ∷ places) place = ap (λ o. behind_or o first path) (last_push path places place) ∙ by (is_same place path)
  where
    by : (b : Bool) → behind_or (cond b (Some (length places)) (last_at path places)) first path
        ≡ cond b (Some (length (first ∷ places))) (behind_or (last_at path places) first path)
    by true = refl
    by false = refl

-- a place that leads to a path with one more part is that path, or leads to the path
pub one_part_more : (place front : Path) (part : List ℕ) → is_prefix place (front ++ part ∷ [])
    ≡ (is_prefix place front || is_same place (front ++ part ∷ []))
one_part_more [] front part = refl
one_part_more (first ∷ place) [] part = by (bytes_eq first part) place
  where
    by : (b : Bool) (place : Path) → (b && is_prefix place []) ≡ (false || (b && is_same place []))
    by true [] = refl
    by true (x ∷ place) = refl
    by false place = refl
one_part_more (first ∷ place) (other ∷ front) part = by (bytes_eq first other) (one_part_more place front part)
  where
    by : (b : Bool) → is_prefix place (front ++ part ∷ []) ≡ (is_prefix place front || is_same place (front ++ part ∷ [])) →
        (b && is_prefix place (front ++ part ∷ [])) ≡ ((b && is_prefix place front) || (b && is_same place (front ++ part ∷ [])))
    by true e = e
    by false e = refl

-- a place that leads to a path leads to a front of it, or continues after the front
pub front_or_on : (place front : Path) (part : List ℕ) (rest : Path) → is_prefix place (front ++ part ∷ rest) ≡ true
    → (is_prefix place front ≡ true) ⊎ ((more : Path) × (place ≡ front ++ part ∷ more))
front_or_on [] front part rest e = inl refl
front_or_on (first ∷ place) [] part rest e =
    inr (place, ap (λ (p : List ℕ). p ∷ place) (same_part first part (and_parts (bytes_eq first part) (is_prefix place rest) e).0))
front_or_on (first ∷ place) (other ∷ front) part rest e =
    let both = and_parts (bytes_eq first other) (is_prefix place (front ++ part ∷ rest)) e in
    elim (front_or_on place front part rest both.1) [
      | inl leads ↦ inl (and_from _ _ both.0 leads)
      | inr on ↦ inr (on.0, ap (λ (p : List ℕ). p ∷ place) (same_part first other both.0) ∙ ap (λ (p : Path). other ∷ p) on.1)
    ]
