-- Bytes that are text, and bytes that are not.
use Rattle.std.proofs.Common.{◌≡◌, ℕ, Bool, true, false, cond, Some, None, Result, Err, List, refl, sym, ap, ◌∙◌, subst}
use Rattle.std.proofs.lemmas.Option.{none-some, same_Some}
use Rattle.kernel_model.specs.text_forms.line_text.Lines.{Line, is_text, text_of, lines_of}
use Rattle.kernel_model.specs.call_table.Table.{Table}
use Rattle.kernel_model.specs.declared.kernel_calls.call.Call.{Call}
use Rattle.script_text.specs.Progress.{ReadsScript}
use Rattle.script_text.specs.Scripts.{script_of, script_of_lines}
use Rattle.script_text.specs.declared.error.ScriptError.{ScriptError}
use Rattle.script_text.specs.declared.error.ScriptError.TheVariants.{NotText}

pub no_text : (table : Table) (bytes : List ℕ) → None ≡ text_of bytes → script_of table bytes ≡ Err NotText
unfolding script_of text_of
no_text table bytes = by (is_text bytes)
  where
    by : (b : Bool) → None ≡ cond b (Some bytes) None → cond b (script_of_lines table (lines_of bytes)) (Err NotText) ≡ Err NotText
    by true h = absurd (none-some bytes h)
    by false h = refl

pub of_text : (table : Table) (bytes text : List ℕ) (lines : List Line) (result : Result (List Call) ScriptError)
    → Some text ≡ text_of bytes → lines ≡ lines_of text
    → ReadsScript (script_of_lines table lines) result → ReadsScript (script_of table bytes) result
unfolding script_of text_of
of_text table bytes text lines result told e h = by (is_text bytes) told
  where
    by : (b : Bool) → Some text ≡ cond b (Some bytes) None → ReadsScript
        (cond b (script_of_lines table (lines_of bytes)) (Err NotText)) result
    by true t = subst (λ (ls : List Line). ReadsScript (script_of_lines table ls) result) (e ∙ ap lines_of (same_Some text bytes t)) h
    by false t = absurd (none-some text (sym t))
