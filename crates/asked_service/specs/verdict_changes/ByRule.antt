-- What changes, by the rules that decide what is open and what is blind, and by the choice of calls.
use Rattle.std.specs.Prelude.{◌≡◌, Bool, true, false, List, [], ◌∷◌, ◌++◌, flat_map}
use Rattle.judge.specs.abs_path.Paths.{Path}
use Rattle.judge.specs.call_table.Table as calls
use Rattle.open_calls.specs.chosen_calls.Chosen.{calls_for}
use Rattle.asked_service.specs.ByRule.{is_named_by}
use Rattle.judge.specs.kernel_model.declared.kernel_calls.call.Call.{Call}
use Rattle.judge.specs.kernel_laws.Bound.{is_open}
use Rattle.judge.specs.kernel_laws.Launched.{Launch, launch_of}
use Rattle.judge.specs.kernel_laws.declared.question_types.question.Question.{Question}
use Rattle.judge.specs.kernel_laws.Questions.{questions}
use Rattle.judge.specs.kernel_model.World.{World}
use Rattle.judge.specs.kernel_ways.Laws.{IsServedWorld}
use Rattle.judge.specs.kernel_ways.Offers.{RunsProgram}
use Rattle.judge.specs.site_table.Table.{Site}
use Rattle.judge.specs.site_table.declared.row.Row.{Row}
use Rattle.asked_service.specs.verdict_changes.Changes.{AreChanges, Change, Closed, Hidden, Opened, Shown}

-- by whether it was open and whether it is
abbrev pub verdict_change : Bool → Bool → Question → List Call → List Change
verdict_change true true question list = []
verdict_change true false question list = Closed question ∷ []
verdict_change false true question list = Opened question list ∷ []
verdict_change false false question list = []

abbrev pub question_change : Launch → Launch → Path → Question → List Change
question_change before after program question = verdict_change (is_open before question) (is_open after question) question
    (calls_for after program question)

-- by whether it was blind and whether it is
abbrev pub blind_change : Bool → Bool → Path → List Change
blind_change true true folder = []
blind_change true false folder = Shown folder ∷ []
blind_change false true folder = Hidden folder ∷ []
blind_change false false folder = []

abbrev pub row_change : Launch → Launch → Row → List Change
row_change before after row = blind_change (is_named_by before row) (is_named_by after row) row.path

-- all of them
abbrev pub changes_by : Launch → Launch → Path → List Question → List Row → List Change
changes_by before after program list rows = flat_map (question_change before after program) list ++ flat_map (row_change before after) rows

-- they are those that are
abbrev pub ChangesAreTrue : Type 0
ChangesAreTrue = (table : calls.Table) (site : Site) (before after : World) (first program : Path)
    → IsServedWorld before → RunsProgram (launch_of before) first → IsServedWorld after → RunsProgram (launch_of after) program
    → before.calls ≡ table → before.site ≡ site → after.calls ≡ table → after.site ≡ site
    → AreChanges table site before after (changes_by (launch_of before) (launch_of after) program (questions table site) site.rows)
