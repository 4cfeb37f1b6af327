use Rattle.std.proofs.Common.{◌≡◌, Err, Ok, refl}
use Rattle.asked_service.specs.launching.Starting.{given}
use Rattle.asked_service.specs.unit_inputs.declared.command_answers.exit_status.ExitStatus.TheVariants.{Done}
use Rattle.asked_service.proofs.OfUnitInputs.ReadyTexts.{ready_reads_nothing}
use Rattle.asked_service.proofs.Started.{ready_as, served, told}
use Rattle.why_command.specs.lines_command.Prints.{TellsLines, TellsService}
use Rattle.why_command.proofs.lines_command.answering.answer.Goals as goal

pub returns-in-Ok-clause-answers : goal.returns-in-Ok-clause-answers
returns-in-Ok-clause-answers c =
    let inputs = given c.args.unit.now c.args.calls.now c.args.site.now in
    let name = c.args.name.now in
    served name inputs.unit inputs.calls inputs.site (TellsLines name inputs) c.in-Ok.service c.tell_launched.result
    c.in-Ok.ensures.launches
    (ready_as (λ status text. (status ≡ Done) × TellsService name inputs c.in-Ok.service text) (TellsLines name inputs)
    (λ status text is. record { launch = Ok c.in-Ok.service; starts = c.in-Ok.ensures.launches; tells = is }) c.tell_launched.result
    c.tell_launched.ensures)

pub returns-in-Ok-clause-reads_nothing : goal.returns-in-Ok-clause-reads_nothing
returns-in-Ok-clause-reads_nothing c =
    ready_reads_nothing (λ status text. (status ≡ Done)
    × TellsService c.args.name.now (given c.args.unit.now c.args.calls.now c.args.site.now) c.in-Ok.service text)
    c.tell_launched.result c.tell_launched.ensures

pub returns-in-Err-clause-answers : goal.returns-in-Err-clause-answers
returns-in-Err-clause-answers c =
    let inputs = given c.args.unit.now c.args.calls.now c.args.site.now in
    let name = c.args.name.now in
    told name inputs.unit inputs.calls inputs.site (TellsLines name inputs) c.in-Err.refusal c.tell_refusal.result
    c.in-Err.ensures.launches c.tell_refusal.ensures.tells
    (λ error is. record { launch = Err error; starts = is; tells = (refl, refl) })
