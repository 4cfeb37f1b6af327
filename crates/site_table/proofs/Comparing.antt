-- A text is compared in byte order with two other texts, one after the other.
use Rattle.std.proofs.Common.{◌≡◌, ℕ, ◌<◌, ◌≤◌, List, [], ◌∷◌, ◌++◌, length, take, drop, nat_cmp, Ordering, Less, Equal, Greater, refl, ap}
use Rattle.std.proofs.Common.{◌∙◌, arith}
use Rattle.std.specs.Ordering.{ordering_then}
use Rattle.std.specs.Cmp.Lexicographic.{slice_cmp}

then_assoc : (a b c : Ordering) → ordering_then a (ordering_then b c) ≡ ordering_then (ordering_then a b) c
then_assoc Less b c = refl
then_assoc Equal b c = refl
then_assoc Greater b c = refl

pub shorter_order : (text front rest : List ℕ) → length text < length front
    → slice_cmp nat_cmp text (front ++ rest) ≡ ordering_then (slice_cmp nat_cmp text (take (length text) front)) Less
shorter_order text [] rest h = absurd (omega arith)
shorter_order [] (y ∷ front) rest h = refl
shorter_order (x ∷ text) (y ∷ front) rest h =
    ap (ordering_then (nat_cmp x y)) (shorter_order text front rest (omega arith))
    ∙ then_assoc (nat_cmp x y) (slice_cmp nat_cmp text (take (length text) front)) Less

pub longer_order : (text front rest : List ℕ) → length front ≤ length text
    → slice_cmp nat_cmp text (front ++ rest) ≡ ordering_then (slice_cmp nat_cmp (take (length front) text) front)
    (slice_cmp nat_cmp (drop (length front) text) rest)
longer_order text [] rest h = refl
longer_order [] (y ∷ front) rest h = absurd (omega arith)
longer_order (x ∷ text) (y ∷ front) rest h =
    ap (ordering_then (nat_cmp x y)) (longer_order text front rest (omega arith))
    ∙ then_assoc (nat_cmp x y) (slice_cmp nat_cmp (take (length front) text) front) (slice_cmp nat_cmp (drop (length front) text) rest)
