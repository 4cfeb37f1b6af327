-- A text is cut at each LF by taking off its first line, which the reader reads next.
use Rattle.std.proofs.Common.{◌≡◌, ℕ, ◌+◌, ◌<◌, ◌≤◌, Bool, true, false, cond, eqb, ltb, Option, Some, Result, subst, None, List, [], ◌∷◌}
use Rattle.std.proofs.Common.{length, get_or, refl, sym, ap, ◌∙◌, arith}
use Rattle.std.specs.Prelude.{not}
use Rattle.std.specs.List.{slice_split, onto_first, position_or_len, before_first, after_first}
use Rattle.std.proofs.lemmas.Bool.{ltb-true, ltb-false}
use Rattle.std.proofs.lemmas.Option.{cond_some, none-some}
use Rattle.std.proofs.lemmas.List.{length-append}
use Rattle.std.proofs.lemmas.List.Sums.{split_at_first}
use Rattle.std.proofs.lemmas.List.Splits.{slice_split_first, slice_split-cons_no}
use Rattle.unit_grammar.specs.declared.joined.Line.{Line}
use Rattle.unit_grammar.specs.declared.unit.Assignment.{Assignment}
use Rattle.unit_grammar.specs.declared.notes.Note.{Note}
use Rattle.unit_grammar.specs.declared.unit.UnitText.{UnitText}
use Rattle.unit_grammar.specs.declared.unit.UnitError.{UnitError}
use Rattle.unit_grammar.specs.Kinds.{cut_at}
use Rattle.unit_grammar.specs.Lines.{parts_from, file_parts, joined_lines}
use Rattle.unit_grammar.specs.Joining.{joined}
use Rattle.unit_grammar.specs.Reading.{unit_of_lines}
use Rattle.unit_grammar.specs.Progress.{IsUnlessMemory, StandsBefore}
use Rattle.unit_grammar.proofs.Groups.{joined_groups}

abbrev is_lf : ℕ → Bool
is_lf byte = eqb byte 10

abbrev place_of : List ℕ → ℕ
place_of text = position_or_len is_lf text

abbrev sides_of : List ℕ → List ℕ × List ℕ
sides_of text = (before_first is_lf text, after_first is_lf text)

-- the text has an LF
pub line_cut : (text : List ℕ) (sides : List ℕ × List ℕ) → cut_at 10 text ≡ Some sides
    → slice_split is_lf text ≡ sides.0 ∷ slice_split is_lf sides.1
line_cut text sides e =
    let both = cond_some (ltb (place_of text) (length text)) (sides_of text) sides e in
    slice_split_first is_lf text 0 (ltb-true (place_of text) (length text) both.0)
    ∙ ap (λ (s : List ℕ × List ℕ). s.0 ∷ slice_split is_lf s.1) both.1

pub shorter : (text : List ℕ) (sides : List ℕ × List ℕ) → cut_at 10 text ≡ Some sides → length sides.1 < length text
shorter text sides e =
    let both = cond_some (ltb (place_of text) (length text)) (sides_of text) sides e in
    let split = split_at_first is_lf text 0 (ltb-true (place_of text) (length text) both.0) in
    omega (arith, ap length split, length-append (before_first is_lf text) (get_or text (place_of text) 0 ∷ after_first is_lf text), ap (λ (s : List ℕ × List ℕ). length s.1) both.1)

-- the text has no LF
one_line : (text : List ℕ) → length text ≤ place_of text → slice_split is_lf text ≡ text ∷ []
one_line [] h = refl
one_line (byte ∷ text) h =
    elim (is_lf byte) as (λ b. is_lf byte ≡ b → slice_split is_lf (byte ∷ text) ≡ (byte ∷ text) ∷ []) [
      | true ↦ λ e. absurd (omega (arith, h, ap (λ b. cond (not b) (1 + place_of text) 0) e))
      | false ↦ λ e.
          slice_split-cons_no is_lf byte text e ∙ ap (onto_first byte)
          (one_line text (omega (arith, h, ap (λ b. cond (not b) (1 + place_of text) 0) e)))
    ]
    refl

pub no_cut : (text : List ℕ) → cut_at 10 text ≡ None → slice_split is_lf text ≡ text ∷ []
no_cut text e =
    elim (ltb (place_of text) (length text)) as (λ b. ltb (place_of text) (length text) ≡ b → cond b (Some (sides_of text)) None ≡ None
    → slice_split is_lf text ≡ text ∷ []) [
      | true ↦ λ t e. absurd (none-some (sides_of text) (sym e))
      | false ↦ λ f e. one_line text (ltb-false (place_of text) (length text) f)
    ]
    refl e

-- the reader is before the first line, and before the last line
pub stands_before_line : (lines : List Line) (begun : Option Line) (number : ℕ) (text : List ℕ) (sides : List ℕ × List ℕ)
    (section : Option (List ℕ)) (assignments : List Assignment) (notes : List Note) → cut_at 10 text ≡ Some sides
    → StandsBefore lines begun (parts_from number (slice_split is_lf text)) section assignments notes
    → StandsBefore lines begun (parts_from number (sides.0 ∷ slice_split is_lf sides.1)) section assignments notes
stands_before_line lines begun number text sides section assignments notes e s =
    subst (λ ls. StandsBefore lines begun (parts_from number ls) section assignments notes) (line_cut text sides e) s

pub stands_before_last : (lines : List Line) (begun : Option Line) (number : ℕ) (text : List ℕ) (section : Option (List ℕ))
    (assignments : List Assignment) (notes : List Note) → cut_at 10 text ≡ None
    → StandsBefore lines begun (parts_from number (slice_split is_lf text)) section assignments notes
    → StandsBefore lines begun (parts_from number (text ∷ [])) section assignments notes
stands_before_last lines begun number text section assignments notes e s =
    subst (λ ls. StandsBefore lines begun (parts_from number ls) section assignments notes) (no_cut text e) s

-- the joined parts of a file give its contents
pub of_joined : (text : List ℕ) (result : Result UnitText UnitError) → IsUnlessMemory result (unit_of_lines (joined (file_parts text)))
    → IsUnlessMemory result (unit_of_lines (joined_lines text))
of_joined text result h = subst (λ ls. IsUnlessMemory result (unit_of_lines ls)) (joined_groups (file_parts text)) h
