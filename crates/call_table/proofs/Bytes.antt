-- Bytes may be text or no text.
use Rattle.std.proofs.Common.{◌≡◌, ℕ, Bool, true, false, cond, Some, None, Result, Err, List, refl, sym, ap, ◌∙◌, subst}
use Rattle.std.proofs.lemmas.Option.{none-some, same_Some}
use Rattle.text_forms.specs.line_text.Lines.{Line, is_text, text_of, lines_of}
use Rattle.call_table.specs.Table.{Table}
use Rattle.call_table.specs.declared.causes.CallsError.{CallsError}
use Rattle.call_table.specs.declared.causes.CallsError.TheVariants.{NotText}
use Rattle.call_table.specs.Reading.{table_of, table_of_lines}
use Rattle.call_table.specs.Progress.{IsUnlessMemory}

pub no_text : (bytes : List ℕ) → None ≡ text_of bytes → table_of bytes ≡ Err NotText
unfolding table_of text_of
no_text bytes = by (is_text bytes)
  where
    by : (b : Bool) → None ≡ cond b (Some bytes) None → cond b (table_of_lines (lines_of bytes)) (Err NotText) ≡ Err NotText
    by true h = absurd (none-some bytes h)
    by false h = refl

pub of_text : (bytes text : List ℕ) (lines : List Line) (result : Result Table CallsError) → Some text ≡ text_of bytes
    → lines ≡ lines_of text → IsUnlessMemory result (table_of_lines lines) → IsUnlessMemory result (table_of bytes)
unfolding table_of text_of
of_text bytes text lines result told e h = by (is_text bytes) told
  where
    by : (b : Bool) → Some text ≡ cond b (Some bytes) None → IsUnlessMemory result (cond b (table_of_lines (lines_of bytes)) (Err NotText))
    by true t = subst (λ (ls : List Line). IsUnlessMemory result (table_of_lines ls)) (e ∙ ap lines_of (same_Some text bytes t)) h
    by false t = absurd (none-some text (sym t))
