-- A text is cut at the first of a byte.
use Rattle.std.proofs.Common.{◌≡◌, ℕ, ◌+◌, Bool, true, cond, eqb, ltb, Some, None, List, [], ◌∷◌, ◌++◌, length, take, drop, refl, ap, ◌∙◌}
use Rattle.std.proofs.Common.{arith}
use Rattle.std.proofs.Math.Seq.{take-append_seam, drop-append-add}
use Rattle.std.specs.Prelude.{not}
use Rattle.std.specs.List.{list_all, position_or_len, before_first, after_first}
use Rattle.std.proofs.lemmas.Bool.{and_parts, ltb-true, lt-ltb, le-ltb, eqb-true, eq-eqb}
use Rattle.std.proofs.lemmas.Option.{cond_some}
use Rattle.std.proofs.lemmas.List.{length-append}
use Rattle.std.proofs.lemmas.List.Sums.{split_at_first, passes_at_first}
use Rattle.unit_names.specs.Cutting.{cut_at}

abbrev is_byte : ℕ → ℕ → Bool
is_byte byte b = eqb b byte

pub cut_at_whole : (byte : ℕ) (text : List ℕ) (sides : List ℕ × List ℕ) → cut_at byte text ≡ Some sides → text ≡ sides.0 ++ byte ∷ sides.1
cut_at_whole byte text sides e =
    let both = cond_some (ltb (position_or_len (is_byte byte) text) (length text)) (before_first (is_byte byte) text, after_first (is_byte byte) text) sides e in
    let inside = ltb-true (position_or_len (is_byte byte) text) (length text) both.0 in
    split_at_first (is_byte byte) text 0 inside
    ∙ ap (λ b. before_first (is_byte byte) text ++ b ∷ after_first (is_byte byte) text)
    (eqb-true _ byte (passes_at_first (is_byte byte) text 0 inside))
    ∙ ap (λ (s : List ℕ × List ℕ). s.0 ++ byte ∷ s.1) both.1

first_place : (byte : ℕ) (front back : List ℕ) → list_all (λ b. not (eqb b byte)) front ≡ true
    → position_or_len (is_byte byte) (front ++ byte ∷ back) ≡ length front
first_place byte [] back h = ap (λ b. cond (not b) (1 + position_or_len (is_byte byte) back) 0) (eq-eqb byte byte refl)
first_place byte (x ∷ front) back h =
    let both = and_parts (not (eqb x byte)) (list_all (λ b. not (eqb b byte)) front) h in
    ap (λ b. cond b (1 + position_or_len (is_byte byte) (front ++ byte ∷ back)) 0) both.0
    ∙ omega (arith, first_place byte front back both.1)

no_place : (byte : ℕ) (text : List ℕ) → list_all (λ b. not (eqb b byte)) text ≡ true → position_or_len (is_byte byte) text ≡ length text
no_place byte [] h = refl
no_place byte (x ∷ text) h =
    let both = and_parts (not (eqb x byte)) (list_all (λ b. not (eqb b byte)) text) h in
    ap (λ b. cond b (1 + position_or_len (is_byte byte) text) 0) both.0
    ∙ omega (arith, no_place byte text both.1)

pub cut_at_none : (byte : ℕ) (text : List ℕ) → list_all (λ b. not (eqb b byte)) text ≡ true → cut_at byte text ≡ None
cut_at_none byte text h =
    ap (λ b. cond b (Some (before_first (is_byte byte) text, after_first (is_byte byte) text)) None)
    (le-ltb (position_or_len (is_byte byte) text) (length text) (omega (arith, no_place byte text h)))

pub cut_at-append : (byte : ℕ) (front back : List ℕ) → list_all (λ b. not (eqb b byte)) front ≡ true
    → cut_at byte (front ++ byte ∷ back) ≡ Some (front, back)
cut_at-append byte front back h =
    let text = front ++ byte ∷ back in
    let place = first_place byte front back h in
    ap (λ b. cond b (Some (before_first (is_byte byte) text, after_first (is_byte byte) text)) None)
    (lt-ltb (position_or_len (is_byte byte) text) (length text) (omega (arith, place, length-append front (byte ∷ back))))
    ∙ ap (λ n. Some (take n text, drop (n + 1) text)) place
    ∙ ap (λ x. Some (x, drop (length front + 1) text)) (take-append_seam front (byte ∷ back))
    ∙ ap (λ x. Some (front, x)) (drop-append-add front (byte ∷ back) 1)
