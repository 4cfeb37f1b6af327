-- What is found of one question and of one folder.
use Rattle.std.specs.Prelude.{List, [], ◌∷◌}
use Rattle.judge.specs.abs_path.Paths.{Path}
use Rattle.judge.specs.kernel_laws.declared.question_types.question.Question.{Question}
use Rattle.asked_service.specs.verdict_changes.Changes.{Change, Closed, Hidden, Opened, Shown}
use Rattle.asked_service.specs.declared.verdict_changes.asking.VerdictChange.{VerdictChange}
use Rattle.asked_service.specs.declared.verdict_changes.asking.VerdictChange.TheVariants as verdict
use Rattle.asked_service.specs.declared.verdict_changes.looking.FolderChange.{FolderChange}
use Rattle.asked_service.specs.declared.verdict_changes.looking.FolderChange.TheVariants as folder

-- as a list: of no change, or of one
abbrev pub change_of : Question → VerdictChange → List Change
change_of question verdict.Same = []
change_of question verdict.Closed = Closed question ∷ []
change_of question (verdict.Opened list) = Opened question list.items ∷ []

abbrev pub turn_of : Path → FolderChange → List Change
turn_of path folder.Same = []
turn_of path folder.Hidden = Hidden path ∷ []
turn_of path folder.Shown = Shown path ∷ []
