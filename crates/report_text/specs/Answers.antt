-- The lines for answers to questions and for blind folders, and the count of all questions.
use Rattle.std.specs.Prelude.{ℕ, List, [], ◌∷◌, ◌++◌, codes}
use Rattle.std.specs.Fmt.{decimal}
use Rattle.std.specs.List.{flat_map}
use Rattle.exposure_score.specs.abs_path.Paths.{Path, text_of}
use Rattle.exposure_score.specs.call_table.Table as calls
use Rattle.exposure_score.specs.site_table.Table.{Site}
use Rattle.exposure_score.specs.text_forms.Escaped.{escaped_word}
use Rattle.questions.specs.kernel_model.declared.kernel_calls.call.Call.{Call}
use Rattle.questions.specs.kernel_laws.declared.question_types.question.Question.{Question}
use Rattle.questions.specs.kernel_laws.declared.question_types.verdict.Verdict.{Verdict}
use Rattle.questions.specs.kernel_laws.declared.question_types.verdict.Verdict.TheVariants.{Denied, Open}
use Rattle.script_text.specs.Printed.{call_text}
use Rattle.report_text.specs.Wording.{question_words}

abbrev pub verdict_word : Verdict → List ℕ
verdict_word Denied = codes "denied"
verdict_word Open = codes "open"

-- a question after a word
abbrev pub question_line : List ℕ → calls.Table → Site → Question → List ℕ
question_line word table site question = word ++ (codes " " ++ (question_words table site question ++ 10 ∷ []))

-- a question after its verdict
abbrev pub verdict_line : calls.Table → Site → Question → Verdict → List ℕ
verdict_line table site question verdict = question_line (verdict_word verdict) table site question

-- a call below an open question, as a script has it
abbrev pub call_line : calls.Table → Call → List ℕ
call_line table call = codes "  " ++ (call_text table call ++ 10 ∷ [])

-- an open question, and these calls below it
abbrev pub open_lines : calls.Table → Site → Question → List Call → List ℕ
open_lines table site question list = verdict_line table site question Open ++ flat_map (call_line table) list

-- a folder that is blind
abbrev pub blind_line : Path → List ℕ
blind_line folder = codes "blind " ++ (escaped_word (text_of folder) ++ 10 ∷ [])

-- how many questions are denied, and how many open
abbrev pub summary_line : ℕ → ℕ → List ℕ
summary_line denied reachable = codes "summary denied " ++ (decimal denied ++ (codes " open " ++ (decimal reachable ++ 10 ∷ [])))
