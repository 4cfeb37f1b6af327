-- The chosen calls show an open question, and process 1 or its child makes them.
use Rattle.std.specs.Prelude.{◌≡◌, true}
use Rattle.ceilings.specs.abs_path.Paths.{Path}
use Rattle.ceilings.specs.kernel_model.World.{World}
use Rattle.ceilings.specs.kernel_laws.Bound.{is_open}
use Rattle.ceilings.specs.kernel_laws.Denied.{Shows}
use Rattle.ceilings.specs.kernel_laws.Launched.{IsLaunchedWorld, launch_of}
use Rattle.ceilings.specs.kernel_laws.declared.question_types.question.Question.{Question}
use Rattle.ceilings.specs.kernel_ways.Laws.{IsFit, IsServedWorld}
use Rattle.ceilings.specs.kernel_ways.Offers.{RunsProgram}
use Rattle.open_calls.specs.chosen_calls.Chosen.{calls_for}
use Rattle.open_calls.specs.chosen_calls.Makers.{AreMadeByService}

-- for each open question that can be answered, and by the path of the launch's program
abbrev pub ChoiceShows : Type 0
ChoiceShows = (world : World) (program : Path) (question : Question) → IsServedWorld world → RunsProgram (launch_of world) program
    → IsFit world.site question
    → is_open (launch_of world) question ≡ true → Shows world question (calls_for (launch_of world) program question)

-- process 1 makes them, but for one call after a clone(2) that makes a user namespace
abbrev pub ChoiceIsMade : Type 0
ChoiceIsMade = (world : World) (program : Path) (question : Question) → IsLaunchedWorld world
    → is_open (launch_of world) question ≡ true → AreMadeByService world.calls (calls_for (launch_of world) program question)
