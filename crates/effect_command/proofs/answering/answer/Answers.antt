use Rattle.std.proofs.Common.{Err, Ok}
use Rattle.asked_service.specs.unit_inputs.command_answers.CommandErrors.{Prepares}
use Rattle.asked_service.proofs.OfUnitInputs.FileCommands.{at_stop}
use Rattle.asked_service.specs.launching.Starting.{given}
use Rattle.asked_service.specs.unit_inputs.command_answers.ReadyTexts.{status_of, text_of}
use Rattle.effect_command.specs.Prints.{TellsBoth, TellsWith}
use Rattle.effect_command.specs.Refusals.{refusals_behind_dropin}
use Rattle.asked_service.proofs.OfUnitInputs.ReadyTexts.{ready_reads_nothing}
use Rattle.effect_command.proofs.Prepared.{answers_both, answers_refused, answers_refused_with, starts_over, with_longer}
use Rattle.effect_command.proofs.answering.answer.Goals as goal

pub returns-in_err-first-clause-answers : goal.returns-in_err-first-clause-answers
returns-in_err-first-clause-answers c =
    let inputs = given c.args.unit.now c.args.calls.now c.args.site.now in
    at_stop (λ result. Prepares (λ made. TellsWith inputs c.args.more (status_of made) (text_of made))
    (refusals_behind_dropin c.args.name.now inputs c.args.more) result) c.from_residual-in_err-first.result c.in_err-first.field-0.0
    c.from_residual-in_err-first.ensures.1
    (answers_refused c.args.name.now inputs c.args.more c.in_err-first.field-0.0 c.in_err-first.ensures.starts)

pub returns-in_err-second-clause-answers : goal.returns-in_err-second-clause-answers
returns-in_err-second-clause-answers c =
    let inputs = given c.args.unit.now c.args.calls.now c.args.site.now in
    at_stop (λ result. Prepares (λ made. TellsWith inputs c.args.more (status_of made) (text_of made))
    (refusals_behind_dropin c.args.name.now inputs c.args.more) result) c.from_residual-in_err-second.result c.in_err-second.field-0.0
    c.from_residual-in_err-second.ensures.1
    (answers_refused_with c.args.name.now inputs c.args.more c.in_ok-first.first c.in_ok-first.ensures.starts c.in_err-second.field-0.0
    (with_longer c.args.name.now c.args.calls.now c.args.site.now c.args.unit.now c.args.more c.in_ok-longer.longer c.in_ok-longer.ensures.one_more_file
    (Err c.in_err-second.field-0.0) c.in_err-second.ensures.starts))

pub compare-requires : goal.compare-requires
compare-requires c = record {
  together = record {
    table = c.args.calls.now;
    site = c.args.site.now;
    starts = starts_over (given c.args.unit.now c.args.calls.now c.args.site.now) c.in_ok-first.first c.in_ok-first.ensures.starts.1;
    starts_with = starts_over (given c.in_ok-longer.longer c.args.calls.now c.args.site.now) c.in_ok-second.second
        c.in_ok-second.ensures.starts.1;
  };
}

pub returns-clause-answers : goal.returns-clause-answers
returns-clause-answers c =
    let inputs = given c.args.unit.now c.args.calls.now c.args.site.now in
    answers_both c.args.name.now inputs c.args.more c.in_ok-first.first c.in_ok-first.ensures.starts c.in_ok-second.second
    (with_longer c.args.name.now c.args.calls.now c.args.site.now c.args.unit.now c.args.more c.in_ok-longer.longer c.in_ok-longer.ensures.one_more_file
    (Ok c.in_ok-second.second) c.in_ok-second.ensures.starts)
    c.compare.result
    (c.compare.ensures.tells c.args.calls.now c.args.site.now
    (starts_over inputs c.in_ok-first.first c.in_ok-first.ensures.starts.1)
    (starts_over (given c.in_ok-longer.longer c.args.calls.now c.args.site.now) c.in_ok-second.second c.in_ok-second.ensures.starts.1))

pub returns-clause-reads_nothing : goal.returns-clause-reads_nothing
returns-clause-reads_nothing c =
    ready_reads_nothing (TellsBoth c.args.calls.now c.args.site.now c.in_ok-first.first c.in_ok-second.second) c.compare.result
    (c.compare.ensures.tells c.args.calls.now c.args.site.now
    (starts_over (given c.args.unit.now c.args.calls.now c.args.site.now) c.in_ok-first.first c.in_ok-first.ensures.starts.1)
    (starts_over (given c.in_ok-longer.longer c.args.calls.now c.args.site.now) c.in_ok-second.second c.in_ok-second.ensures.starts.1))
