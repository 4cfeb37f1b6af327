use Rattle.std.proofs.Common.{Err, Ok}
use Rattle.std.specs.Prelude.{IsErrOf}
use Rattle.asked_service.specs.unit_inputs.command_answers.CommandErrors.{Prepares}
use Rattle.asked_service.specs.unit_inputs.declared.command_answers.error.CommandError.TheVariants as stop
use Rattle.asked_service.proofs.OfUnitInputs.FileCommands.{at_stop}
use Rattle.asked_service.specs.launching.Launched.{IsRefusedUnit}
use Rattle.asked_service.specs.launching.Starting.{StartsAs, given, start_refusals}
use Rattle.asked_service.proofs.Started.{any_stop, launched, stopped}
use Rattle.effect_command.proofs.starting.start.Goals as goal

pub returns-in-Ok-clause-starts : goal.returns-in-Ok-clause-starts
returns-in-Ok-clause-starts c =
    (launched c.args.name.now c.args.unit.now c.args.calls.now c.args.site.now c.in-Ok.service c.in-Ok.ensures.launches, c.in-Ok.ensures.launches)

pub returns-in_ok-refused_launch-in-Err-clause-starts : goal.returns-in_ok-refused_launch-in-Err-clause-starts
returns-in_ok-refused_launch-in-Err-clause-starts c =
    stopped c.args.name.now c.args.unit.now c.args.calls.now c.args.site.now c.in-Err.refusal
    (Ok c.in_ok-refused_launch-in-Err.field-0) c.in-Err.ensures.launches c.in_ok-refused_launch-in-Err.ensures.tells

pub returns-in_err-refused_launch-in-Err-clause-starts : goal.returns-in_err-refused_launch-in-Err-clause-starts
returns-in_err-refused_launch-in-Err-clause-starts c =
    let inputs = given c.args.unit.now c.args.calls.now c.args.site.now in
    at_stop (λ result. Prepares (StartsAs inputs) (start_refusals c.args.name.now inputs) result) c.from_residual.result
    c.in_err-refused_launch-in-Err.field-0.0 c.from_residual.ensures.1
    (any_stop (λ error. IsRefusedUnit c.args.unit.now c.args.calls.now c.args.site.now error) (StartsAs inputs)
    (start_refusals c.args.name.now inputs) c.in_err-refused_launch-in-Err.field-0.0
    (stopped c.args.name.now c.args.unit.now c.args.calls.now c.args.site.now c.in-Err.refusal
    (Err c.in_err-refused_launch-in-Err.field-0.0) c.in-Err.ensures.launches c.in_err-refused_launch-in-Err.ensures.tells))
