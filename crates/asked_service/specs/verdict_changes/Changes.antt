-- What changes from one launched service to another: questions that are closed or opened, and folders that are hidden or shown.
use Rattle.std.specs.Prelude.{◌≡◌, List, [], ◌∷◌, ◌++◌, true, false, flat_map}
use Rattle.judge.specs.abs_path.ByteOrder.{AreAscending}
use Rattle.judge.specs.abs_path.Paths.{Path}
use Rattle.judge.specs.call_table.Table as calls
use Rattle.asked_service.specs.Answers.{Open, IsTrueAnswer}
use Rattle.judge.specs.kernel_model.declared.kernel_calls.call.Call.{Call}
use Rattle.judge.specs.kernel_laws.Denied.{IsBlind, IsDenied}
use Rattle.judge.specs.kernel_laws.declared.question_types.question.Question.{Question}
use Rattle.judge.specs.kernel_laws.Questions.{questions}
use Rattle.judge.specs.kernel_model.World.{World}
use Rattle.judge.specs.kernel_ways.Blindness.{IsExposed}
use Rattle.judge.specs.site_table.Kinds.{is_dir}
use Rattle.judge.specs.site_table.Table.{Site}
use Rattle.judge.specs.site_table.declared.row.Row.{Row}

-- a question that was open is denied; one that was denied is open, by a list of calls; a folder that was seen is blind; and one
-- that was blind is seen
pub data Change : Type 0 where
  Closed : Question → Change
  Opened : Question → List Call → Change
  Hidden : Path → Change
  Shown : Path → Change

-- open as `judge` answers it, with some list of calls
abbrev pub IsOpen : World → Question → Type 0
IsOpen world question = (list : List Call) × IsTrueAnswer world (Open question list)

-- of questions, in their order: those that are denied in one world and open in the other, and no others
pub data ChangesVerdicts (before after : World) : List Question → List Change → Type 0 where
  no_question : ChangesVerdicts before after [] []
  both_denied : (question : Question) (rest : List Question) (changes : List Change) → IsDenied before question → IsDenied after question
      → ChangesVerdicts before after rest changes → ChangesVerdicts before after (question ∷ rest) changes
  both_open : (question : Question) (rest : List Question) (changes : List Change) → IsOpen before question → IsOpen after question
      → ChangesVerdicts before after rest changes → ChangesVerdicts before after (question ∷ rest) changes
  closed : (question : Question) (rest : List Question) (changes : List Change) → IsOpen before question → IsDenied after question
      → ChangesVerdicts before after rest changes → ChangesVerdicts before after (question ∷ rest) (Closed question ∷ changes)
  opened : (question : Question) (list : List Call) (rest : List Question) (changes : List Change) → IsDenied before question
      → IsTrueAnswer after (Open question list)
      → ChangesVerdicts before after rest changes → ChangesVerdicts before after (question ∷ rest) (Opened question list ∷ changes)

-- of rows, in their order: the folders that are blind in one world and exposed by some list of calls in the other, and no others
pub data ChangesFolders (before after : World) : List Row → List Change → Type 0 where
  no_row : ChangesFolders before after [] []
  no_folder : (row : Row) (rest : List Row) (changes : List Change) → is_dir row.kind ≡ false
      → ChangesFolders before after rest changes → ChangesFolders before after (row ∷ rest) changes
  both_blind : (row : Row) (rest : List Row) (changes : List Change) → IsBlind before row.path → IsBlind after row.path
      → ChangesFolders before after rest changes → ChangesFolders before after (row ∷ rest) changes
  both_seen : (row : Row) (rest : List Row) (changes : List Change) → IsExposed before row.path → IsExposed after row.path
      → ChangesFolders before after rest changes → ChangesFolders before after (row ∷ rest) changes
  hidden : (row : Row) (rest : List Row) (changes : List Change) → is_dir row.kind ≡ true → IsExposed before row.path
      → IsBlind after row.path
      → ChangesFolders before after rest changes → ChangesFolders before after (row ∷ rest) (Hidden row.path ∷ changes)
  shown : (row : Row) (rest : List Row) (changes : List Change) → is_dir row.kind ≡ true → IsBlind before row.path
      → IsExposed after row.path
      → ChangesFolders before after rest changes → ChangesFolders before after (row ∷ rest) (Shown row.path ∷ changes)

-- the folder of a change of folders
abbrev pub folder_in : Change → List Path
folder_in (Closed question) = []
folder_in (Opened question list) = []
folder_in (Hidden folder) = folder ∷ []
folder_in (Shown folder) = folder ∷ []

-- exactly these: of all questions in their order, and then of the folders of the site, in byte order of their paths
pub record AreChanges (table : calls.Table) (site : Site) (before after : World) (changes : List Change) : Type 0 where
  pub verdicts : List Change
  pub folders : List Change
  pub each_question : ChangesVerdicts before after (questions table site) verdicts
  pub each_folder : ChangesFolders before after site.rows folders
  pub in_byte_order : AreAscending (flat_map folder_in folders)
  pub one_behind_the_other : changes ≡ verdicts ++ folders
