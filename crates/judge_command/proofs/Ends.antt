-- Each line ends in a line feed.
use Rattle.std.proofs.Common.{List, ℕ, codes, inl, inr, refl}
use Rattle.std.specs.Prelude.{filter, length, not}
use Rattle.std.specs.Fmt.{decimal}
use Rattle.asked_service.specs.abs_path.Paths.{Path, text_of}
use Rattle.asked_service.specs.text_forms.Escaped.{escaped_word}
use Rattle.asked_service.specs.report_text.Launches.{launched_line, yes_or_no}
use Rattle.asked_service.specs.report_text.declared.launches.Launched.{Launched as Line}
use Rattle.asked_service.specs.launching.Refusals.{launch_line}
use Rattle.asked_service.specs.launcher.declared.error.LaunchError.{LaunchError}
use Rattle.asked_service.specs.launcher.declared.error.LaunchError.TheVariants as error
use Rattle.asked_service.specs.unit_inputs.command_answers.Lines.{IsOfLines}
use Rattle.asked_service.specs.call_table.Table.{Table}
use Rattle.asked_service.specs.site_table.Table.{Site}
use Rattle.asked_service.specs.dropin_merge.declared.resolved.UnitFile.{UnitFile}
use Rattle.asked_service.specs.dropin_merge.declared.unit_values.value.FileNote.{FileNote}
use Rattle.asked_service.specs.unit_grammar.Causes.{cause_text}
use Rattle.asked_service.specs.script_text.Printed.{call_text}
use Rattle.asked_service.specs.kernel_model.declared.kernel_calls.call.Call.{Call}
use Rattle.asked_service.specs.kernel_laws.declared.question_types.question.Question.{Question}
use Rattle.asked_service.specs.kernel_laws.declared.question_types.verdict.Verdict.{Verdict}
use Rattle.asked_service.specs.kernel_laws.declared.question_types.verdict.Verdict.TheVariants as verdict
use Rattle.asked_service.specs.report_text.Answers.{blind_line, call_line, summary_line, verdict_line, verdict_word}
use Rattle.asked_service.specs.report_text.Notes.{note_line, path_at, unit_line}
use Rattle.asked_service.specs.report_text.Wording.{question_words}
use Rattle.asked_service.proofs.OfUnitInputs.Lines.{ends_behind, ends_feed, of_lines_all, of_lines_then}
use Rattle.asked_service.specs.Answers.{Answer, Denied, Open, is_denied}
use Rattle.asked_service.specs.AnswerLines.{answer_lines}
use Rattle.judge_command.specs.Report.{count_line}

pub launched_ends : (launched : Line) → IsOfLines (launched_line launched)
launched_ends launched =
    inr (ends_behind (codes "launched uid ") _ (ends_behind (decimal launched.uid) _
    (ends_behind (codes " gid ") _ (ends_behind (decimal launched.gid) _
    (ends_behind (codes " nnp ") _ (ends_behind (yes_or_no launched.no_new_privs) _
    (ends_behind (codes " steps ") _ (ends_behind (decimal launched.steps) _ ends_feed))))))))

pub launch_ends : (why : LaunchError) → IsOfLines (launch_line why)
launch_ends (error.PrivilegedProgram program) = inr (ends_behind (codes "launch privileged ") _
    (ends_behind (escaped_word (text_of program)) _ ends_feed))
launch_ends (error.Refused step errno) =
    inr (ends_behind (codes "launch refused step ") _ (ends_behind (decimal step) _
    (ends_behind (codes " errno ") _ (ends_behind (decimal errno) _ ends_feed))))
launch_ends (error.Killed step) = inr (ends_behind (codes "launch killed step ") _ (ends_behind (decimal step) _ ends_feed))
launch_ends error.Memory = inl refl

pub unit_ends : (unit : List ℕ) → IsOfLines (unit_line unit)
unit_ends unit = inr (ends_behind (codes "unit ") _ (ends_behind (escaped_word unit) _ ends_feed))

pub note_ends : (files : List UnitFile) (note : FileNote) → IsOfLines (note_line files note)
note_ends files note =
    inr (ends_behind (codes "note ") _ (ends_behind (escaped_word (path_at files note.place.file)) _
    (ends_behind (codes " ") _ (ends_behind (decimal note.place.line) _
    (ends_behind (codes " ") _ (ends_behind (cause_text note.cause) _ ends_feed))))))

verdict_ends : (table : Table) (site : Site) (question : Question) (found : Verdict) → IsOfLines (verdict_line table site question found)
verdict_ends table site question found =
    inr (ends_behind (verdict_word found) _ (ends_behind (codes " ") _ (ends_behind (question_words table site question) _ ends_feed)))

call_ends : (table : Table) (call : Call) → IsOfLines (call_line table call)
call_ends table call = inr (ends_behind (codes "  ") _ (ends_behind (call_text table call) _ ends_feed))

pub answer_ends : (table : Table) (site : Site) (answer : Answer) → IsOfLines (answer_lines table site answer)
answer_ends table site (Denied question) = verdict_ends table site question verdict.Denied
answer_ends table site (Open question list) =
    of_lines_then _ _ (verdict_ends table site question verdict.Open) (of_lines_all (call_line table) list (call_ends table))

pub blind_ends : (folder : Path) → IsOfLines (blind_line folder)
blind_ends folder = inr (ends_behind (codes "blind ") _ (ends_behind (escaped_word (text_of folder)) _ ends_feed))

summary_ends : (denied reachable : ℕ) → IsOfLines (summary_line denied reachable)
summary_ends denied reachable =
    inr (ends_behind (codes "summary denied ") _ (ends_behind (decimal denied) _
    (ends_behind (codes " open ") _ (ends_behind (decimal reachable) _ ends_feed))))

pub count_ends : (answers : List Answer) → IsOfLines (count_line answers)
count_ends answers = summary_ends (length (filter is_denied answers)) (length (filter (λ answer. not (is_denied answer)) answers))
