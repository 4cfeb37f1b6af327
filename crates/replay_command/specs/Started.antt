-- A started replay, and how a run continues after the preparation.
use Rattle.std.specs.Prelude.{◌≡◌, ℕ, IsErrOf, List, Result}
use Rattle.asked_service.specs.unit_inputs.command_answers.CommandErrors.{Prepares}
use Rattle.asked_service.specs.unit_inputs.command_answers.Printing.{Finishes, Output}
use Rattle.asked_service.specs.unit_inputs.declared.command_answers.error.CommandError.{CommandError}
use Rattle.asked_service.specs.unit_inputs.declared.command_answers.error.CommandError.TheVariants as stop
use Rattle.asked_service.specs.unit_inputs.declared.command_answers.exit_status.ExitStatus.{ExitStatus}
use Rattle.asked_service.specs.launching.Settled.{StartsBy, inputs_in}
use Rattle.asked_service.specs.launching.Starting.{start_refusals}
use Rattle.replay_command.specs.Texts.{status_behind, replay_text}
use Rattle.replay_command.specs.declared.preparing.Prepared.{Prepared}
use Rattle.replay_command.specs.declared.ready.Replay.{Replay}

-- what is ready
abbrev pub text_of : Replay → List ℕ
text_of replay = replay_text replay.calls.now replay.script.now replay.launch

abbrev pub status_of : Replay → ExitStatus
status_of replay = status_behind replay.launch

-- the launch of what is prepared, with its script and its table of calls
pub record IsStarted (prepared : Prepared) (replay : Replay) : Type 0 where
  pub starts : StartsBy prepared.unit replay.launch
  pub script : replay.script.now ≡ prepared.script
  pub calls : replay.calls.now ≡ (inputs_in prepared.unit).calls

-- its replay is printed, or the line of the path that is refused; or memory ran out, and nothing was printed
pub record FinishesStarted (unit : List ℕ) (prepared : Prepared) (ended : ExitStatus) (output : Output) : Type 0 where
  pub result : Result Replay CommandError
  pub starts : Prepares (IsStarted prepared) (start_refusals unit (inputs_in prepared.unit)) result
  pub reads_nothing : IsErrOf result stop.ReadFault → ⊥
  pub finishes : Finishes status_of text_of result ended output
