-- The text for one question and for one row, piece by piece, given the changes found.
use Rattle.std.specs.Prelude.{ℕ, List, [], ◌∷◌, ◌++◌, codes, flat_map, map}
use Rattle.asked_service.specs.abs_path.Paths.{Path}
use Rattle.asked_service.specs.call_table.Table as calls
use Rattle.asked_service.specs.report_text.Answers.{call_line, question_line}
use Rattle.asked_service.specs.site_table.Table.{Site}
use Rattle.asked_service.specs.declared.verdict_changes.asking.VerdictChange.{VerdictChange}
use Rattle.asked_service.specs.declared.verdict_changes.asking.VerdictChange.TheVariants as verdict
use Rattle.asked_service.specs.declared.verdict_changes.looking.FolderChange.{FolderChange}
use Rattle.asked_service.specs.declared.verdict_changes.looking.FolderChange.TheVariants as folder
use Rattle.asked_service.specs.Asking.{launch_in, world_in}
use Rattle.asked_service.specs.declared.asking.Asked.{Asked}
use Rattle.asked_service.specs.kernel_laws.declared.question_types.question.Question.{Question}
use Rattle.asked_service.specs.site_table.declared.row.Row.{Row}
use Rattle.asked_service.specs.verdict_changes.ByRule.{question_change, row_change, changes_by}
use Rattle.asked_service.specs.verdict_changes.Changes.{Change}
use Rattle.effect_command.specs.Lines.{change_lines, effect_text, folder_line, kind_of}
use Rattle.effect_command.specs.declared.kinds.Kind.{Kind}
use Rattle.effect_command.specs.declared.kinds.Kind.TheVariants as kind

abbrev pub lines_in : Asked → List Change → List ℕ
lines_in after changes = flat_map (change_lines (world_in after).calls (world_in after).site) changes

abbrev pub changes_at : Asked → Asked → Question → List Change
changes_at before after question = question_change (launch_in before) (launch_in after) after.bounded.service.program question

abbrev pub turns_at : Asked → Asked → Row → List Change
turns_at before after row = row_change (launch_in before) (launch_in after) row

-- the lines of what is found of a question, and of a folder
abbrev pub verdict_lines : calls.Table → Site → Question → VerdictChange → List ℕ
verdict_lines table site question verdict.Same = []
verdict_lines table site question verdict.Closed = question_line (codes "closed") table site question
verdict_lines table site question (verdict.Opened list) = question_line (codes "opened") table site question ++ flat_map
    (call_line table) list.items

abbrev pub folder_lines : Path → FolderChange → List ℕ
folder_lines path folder.Same = []
folder_lines path folder.Hidden = folder_line (codes "hidden") path
folder_lines path folder.Shown = folder_line (codes "shown") path

-- and of which kind it is
abbrev pub verdict_kinds : VerdictChange → List Kind
verdict_kinds verdict.Same = []
verdict_kinds verdict.Closed = kind.Closed ∷ []
verdict_kinds (verdict.Opened list) = kind.Opened ∷ []

abbrev pub folder_kinds : FolderChange → List Kind
folder_kinds folder.Same = []
folder_kinds folder.Hidden = kind.Hidden ∷ []
folder_kinds folder.Shown = kind.Shown ∷ []

-- all of it
abbrev pub told_text : Asked → Asked → List ℕ
told_text before after =
    effect_text (world_in after).calls (world_in after).site
    (changes_by (launch_in before) (launch_in after) after.bounded.service.program after.questions.items (world_in after).site.rows)
