-- Bytes may be text or no text.
use Rattle.std.proofs.Common.{◌≡◌, ℕ, false, cond, eqb, Result, Err, List, sym, ap, ◌∙◌, subst}
use Rattle.std.specs.Prelude.{◌&&◌, not}
use Rattle.std.specs.List.{list_any}
use Rattle.std.specs.Str.{IsUtf8, is_utf8}
use Rattle.std.proofs.lemmas.Str.{IsUtf8-from_is_utf8, is_utf8-from_IsUtf8}
use Rattle.std.proofs.lemmas.Bool.{false_from_ne_true}
use Rattle.unit_grammar.specs.Lines.{joined_lines}
use Rattle.unit_grammar.specs.declared.unit.UnitText.{UnitText}
use Rattle.unit_grammar.specs.declared.unit.UnitError.{UnitError}
use Rattle.unit_grammar.specs.declared.unit.UnitError.TheVariants.{NotText}
use Rattle.unit_grammar.specs.Reading.{unit_of, unit_of_lines}
use Rattle.unit_grammar.specs.Progress.{IsUnlessMemory}

pub not_utf8 : (bytes : List ℕ) → ¬ (IsUtf8 bytes) → unit_of bytes ≡ Err NotText
not_utf8 bytes h =
    ap (λ b. cond (b && not (list_any (λ byte. eqb byte 0) bytes)) (unit_of_lines (joined_lines bytes)) (Err NotText))
    (false_from_ne_true (is_utf8 bytes) (λ e. h (IsUtf8-from_is_utf8 bytes e)))

pub of_text : (bytes text : List ℕ) (result : Result UnitText UnitError) → IsUtf8 bytes → list_any (λ byte. eqb byte 0) bytes ≡ false
    → text ≡ bytes → IsUnlessMemory result (unit_of_lines (joined_lines text)) → IsUnlessMemory result (unit_of bytes)
of_text bytes text result u z t h =
    let known : unit_of_lines (joined_lines text) ≡ unit_of bytes =
    ap (λ bs. unit_of_lines (joined_lines bs)) t
    ∙ sym (ap (λ b. cond (b && not (list_any (λ byte. eqb byte 0) bytes)) (unit_of_lines (joined_lines bytes)) (Err NotText)) (is_utf8-from_IsUtf8 bytes u) ∙ ap (λ b. cond (not b) (unit_of_lines (joined_lines bytes)) (Err NotText)) z) in
    subst (IsUnlessMemory result) known h
