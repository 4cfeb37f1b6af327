use Rattle.std.proofs.Common.{Err, Ok}
use Rattle.std.specs.Prelude.{IsErrOf}
use Rattle.asked_service.proofs.OfUnitInputs.FileCommands.{at_stop}
use Rattle.asked_service.proofs.Started.{any_stop, stop_reads_nothing, stopped_settled}
use Rattle.asked_service.specs.launching.Settled.{StartsBy, inputs_in}
use Rattle.asked_service.specs.launching.Starting.{start_refusals}
use Rattle.asked_service.specs.unit_inputs.command_answers.CommandErrors.{Prepares}
use Rattle.asked_service.specs.unit_inputs.declared.command_answers.error.CommandError.TheVariants as stop
use Rattle.judge_command.specs.Started.{IsStarted}
use Rattle.judge_command.proofs.Prepared.{started_asked, started_refused}
use Rattle.judge_command.proofs.launching.start.Goals as goal

pub ask-requires : goal.ask-requires
ask-requires c = record {
  served = c.in-Ok.ensures.launches.0.launched.is_served;
  program = c.in-Ok.ensures.launches.0.launched.runs_its_program;
}

pub returns-in_ok-ask-in-Ok-clause-starts : goal.returns-in_ok-ask-in-Ok-clause-starts
returns-in_ok-ask-in-Ok-clause-starts c =
    started_asked c.args.name.now c.args.one.now c.in_ok-ask-in-Ok.field-0 c.in-Ok.service c.in_ok-ask-in-Ok.ensures.asks.0
    c.in_ok-ask-in-Ok.ensures.asks.1 c.in-Ok.ensures.launches

pub returns-in_ok-refused_launch-in-Err-clause-starts : goal.returns-in_ok-refused_launch-in-Err-clause-starts
returns-in_ok-refused_launch-in-Err-clause-starts c =
    started_refused c.args.name.now c.args.one.now c.in_ok-refused_launch-in-Err.field-0
    (stopped_settled c.args.name.now c.args.one.now c.in-Err.refusal (Ok c.in_ok-refused_launch-in-Err.field-0) c.in-Err.ensures.launches
    c.in_ok-refused_launch-in-Err.ensures.tells)

pub returns-in_err-refused_launch-in-Err-clause-starts : goal.returns-in_err-refused_launch-in-Err-clause-starts
returns-in_err-refused_launch-in-Err-clause-starts c =
    let one = c.args.one.now in
    let refusals = start_refusals c.args.name.now (inputs_in one) in
    let why = c.in_err-refused_launch-in-Err.field-0.0 in
    at_stop (λ result. Prepares (IsStarted one) refusals result) c.from_residual-in_err-refused_launch-in-Err.result why
    c.from_residual-in_err-refused_launch-in-Err.ensures.1
    (any_stop (λ error. StartsBy one (Err error)) (IsStarted one) refusals why
    (stopped_settled c.args.name.now one c.in-Err.refusal (Err why) c.in-Err.ensures.launches
    c.in_err-refused_launch-in-Err.ensures.tells))
