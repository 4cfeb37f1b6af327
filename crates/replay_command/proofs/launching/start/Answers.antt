use Rattle.std.proofs.Common.{refl}
use Rattle.asked_service.proofs.OfUnitInputs.FileCommands.{at_stop}
use Rattle.asked_service.proofs.Started.{any_stop}
use Rattle.asked_service.specs.launching.Settled.{StartsBy, inputs_in}
use Rattle.asked_service.specs.launching.Starting.{start_refusals}
use Rattle.asked_service.specs.unit_inputs.command_answers.CommandErrors.{Prepares}
use Rattle.replay_command.specs.Started.{IsStarted}
use Rattle.replay_command.proofs.launching.start.Goals as goal

pub start_unit-requires : goal.start_unit-requires
start_unit-requires c = record { settled = c.requires.can_be_started.settled }

pub returns-clause-starts : goal.returns-clause-starts
returns-clause-starts c = (
  c.in_ok-launch.ensures.starts.0,
  record {
    starts = c.in_ok-launch.ensures.starts.1;
    script = refl;
    calls = c.deref.ensures;
  },
)

pub returns-in_err-launch-clause-starts : goal.returns-in_err-launch-clause-starts
returns-in_err-launch-clause-starts c =
    let prepared = c.args.prepared.now in
    let refusals = start_refusals c.args.name.now (inputs_in prepared.unit) in
    at_stop (λ result. Prepares (IsStarted prepared) refusals result) c.from_residual.result c.in_err-launch.field-0.0
    c.from_residual.ensures.1
    (any_stop (StartsBy prepared.unit) (IsStarted prepared) refusals c.in_err-launch.field-0.0 c.in_err-launch.ensures.starts)
