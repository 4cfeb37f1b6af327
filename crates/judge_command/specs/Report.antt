-- The text of a report.
use Rattle.std.specs.Prelude.{ℕ, List, ◌++◌, filter, flat_map, length, not}
use Rattle.asked_service.specs.abs_path.Paths.{Path}
use Rattle.asked_service.specs.call_table.Table as calls
use Rattle.asked_service.specs.site_table.Table.{Site}
use Rattle.asked_service.specs.dropin_merge.declared.resolved.UnitFile.{UnitFile}
use Rattle.asked_service.specs.dropin_merge.declared.unit_values.value.FileNote.{FileNote}
use Rattle.asked_service.specs.report_text.Answers.{blind_line, summary_line}
use Rattle.asked_service.specs.report_text.Launches.{launched_line}
use Rattle.asked_service.specs.report_text.Notes.{note_line, unit_line}
use Rattle.asked_service.specs.report_text.declared.launches.Launched.{Launched as Line}
use Rattle.asked_service.specs.AnswerLines.{answer_lines}
use Rattle.asked_service.specs.Answers.{Answer, is_denied}

-- how many answers are of each kind
abbrev pub count_line : List Answer → List ℕ
count_line answers = summary_line (length (filter is_denied answers)) (length (filter (λ answer. not (is_denied answer)) answers))

-- a launched service: its launch, the answers in their order, the folders that are blind, and the count
abbrev pub service_text : calls.Table → Site → Line → List Answer → List Path → List ℕ
service_text table site launched answers folders =
    launched_line launched ++ (flat_map (answer_lines table site) answers ++ (flat_map blind_line folders ++ count_line answers))

-- the unit, what was passed over in its files, and what its launch came to
abbrev pub report_text : List ℕ → List UnitFile → List FileNote → List ℕ → List ℕ
report_text unit files notes told = unit_line unit ++ (flat_map (note_line files) notes ++ told)
