-- What is answered of a launched service: by the rules that decide what is open and what is blind, and by the choice of calls.
use Rattle.std.specs.Prelude.{◌&&◌, Bool, List, flat_map, map, if◌then◌else◌}
use Rattle.judge.specs.abs_path.Paths.{Path}
use Rattle.judge.specs.site_table.declared.row.Row.{Row}
use Rattle.judge.specs.site_table.Kinds.{is_dir}
use Rattle.judge.specs.kernel_model.World.{World}
use Rattle.judge.specs.kernel_laws.Blind.{is_blind}
use Rattle.judge.specs.kernel_laws.Bound.{is_open}
use Rattle.judge.specs.kernel_laws.Launched.{Launch, launch_of}
use Rattle.judge.specs.kernel_laws.declared.question_types.question.Question.{Question}
use Rattle.judge.specs.kernel_laws.Questions.{if_so, questions}
use Rattle.judge.specs.kernel_ways.Laws.{IsServedWorld}
use Rattle.judge.specs.kernel_ways.Offers.{RunsProgram}
use Rattle.open_calls.specs.chosen_calls.Chosen.{calls_for}
use Rattle.asked_service.specs.Answers.{Answer, Denied, Open, AreAnswers}
use Rattle.asked_service.specs.Folders.{AreBlind}

-- a question that is open is answered with the calls that are chosen for it
abbrev pub answer_of : Launch → Path → Question → Answer
answer_of launch program question = if is_open launch question then Open question (calls_for launch program question) else Denied question

abbrev pub answers_of : World → Path → List Answer
answers_of world program = map (answer_of (launch_of world) program) (questions world.calls world.site)

-- the folders that are blind, by the rule, among some rows
abbrev pub is_named_by : Launch → Row → Bool
is_named_by launch row = is_dir row.kind && is_blind launch row.path

abbrev pub folders_of : Launch → List Row → List Path
folders_of launch rows = flat_map (λ row. if_so (is_named_by launch row) row.path) rows

-- the answers are true, and the folders are those that are blind
abbrev pub AnswersAreTrue : Type 0
AnswersAreTrue = (world : World) (program : Path) → IsServedWorld world → RunsProgram (launch_of world) program
    → AreAnswers world.calls world.site world (answers_of world program)

abbrev pub BlindFoldersAreNamed : Type 0
BlindFoldersAreNamed = (world : World) → IsServedWorld world → AreBlind world world.site (folders_of (launch_of world) world.site.rows)
