use Rattle.std.proofs.Common.{Err, Ok}
use Rattle.std.specs.Prelude.{IsErrOf}
use Rattle.asked_service.proofs.OfUnitInputs.FileCommands.{at_stop}
use Rattle.asked_service.proofs.Started.{any_stop, starts_settled, stopped_settled}
use Rattle.asked_service.specs.launching.Settled.{StartsBy, inputs_in}
use Rattle.asked_service.specs.launching.Starting.{start_refusals}
use Rattle.asked_service.specs.unit_inputs.command_answers.CommandErrors.{Prepares}
use Rattle.asked_service.specs.unit_inputs.declared.command_answers.error.CommandError.TheVariants as stop
use Rattle.replay_command.proofs.launching.start_unit.Goals as goal

pub returns-in-Ok-clause-starts : goal.returns-in-Ok-clause-starts
returns-in-Ok-clause-starts c = starts_settled c.args.name.now c.args.one.now c.in-Ok.service c.in-Ok.ensures.launches

pub returns-in_ok-refused_launch-in-Err-clause-starts : goal.returns-in_ok-refused_launch-in-Err-clause-starts
returns-in_ok-refused_launch-in-Err-clause-starts c =
    stopped_settled c.args.name.now c.args.one.now c.in-Err.refusal (Ok c.in_ok-refused_launch-in-Err.field-0) c.in-Err.ensures.launches
    c.in_ok-refused_launch-in-Err.ensures.tells

pub returns-in_err-refused_launch-in-Err-clause-starts : goal.returns-in_err-refused_launch-in-Err-clause-starts
returns-in_err-refused_launch-in-Err-clause-starts c =
    let one = c.args.one.now in
    let refusals = start_refusals c.args.name.now (inputs_in one) in
    let why = c.in_err-refused_launch-in-Err.field-0.0 in
    at_stop (λ result. Prepares (StartsBy one) refusals result) c.from_residual.result why c.from_residual.ensures.1
    (any_stop (λ error. StartsBy one (Err error)) (StartsBy one) refusals why
    (stopped_settled c.args.name.now one c.in-Err.refusal (Err why) c.in-Err.ensures.launches
    c.in_err-refused_launch-in-Err.ensures.tells))
