use Rattle.asked_service.specs.unit_inputs.declared.command_answers.exit_status.ExitStatus.TheVariants.{Done}
use Rattle.asked_service.proofs.OfUnitInputs.ReadyTexts.{ready_reads_nothing}
use Rattle.std.proofs.Common.{◌≡◌, Ok, Err}
use Rattle.derive_command.specs.trace_profile.Extended.{drop_in_text}
use Rattle.derive_command.proofs.Told.{derived_answers, line_reads_nothing, pushes_none, refusal_answers, seccomp_answers}
use Rattle.derive_command.proofs.answering.answer.Goals as goal

pub returns-in-Ok-clause-answers : goal.returns-in-Ok-clause-answers
returns-in-Ok-clause-answers c =
    derived_answers c.args.name.now c.args.path.now c.args.unit.now c.args.calls.now c.args.site.now c.args.script.now
    (pushes_none _ (Ok c.in-Ok.derived) c.in-Ok.ensures.seccomp_refusal (λ number is. cc)) c.allow_names.result c.in-Ok.derived.names
    c.list.result.now c.in-Ok.ensures.least_list c.in-Ok.ensures.only_list_over_plain_names c.list.ensures.all_in_order
    c.allow_names.ensures

pub returns-in-Ok-clause-reads_nothing : goal.returns-in-Ok-clause-reads_nothing
returns-in-Ok-clause-reads_nothing c =
    ready_reads_nothing (λ status text. (status ≡ Done) × (text ≡ drop_in_text c.args.calls.now c.list.result.now)) c.allow_names.result
    c.allow_names.ensures

pub returns-in-Err-Seccomp-clause-answers : goal.returns-in-Err-Seccomp-clause-answers
returns-in-Err-Seccomp-clause-answers c =
    seccomp_answers c.args.name.now c.args.path.now c.args.unit.now c.args.calls.now c.args.site.now c.args.script.now
    c.in-Err-Seccomp.number c.seccomp_line.result c.refuse.result
    ((c.in-Err-Seccomp.ensures.seccomp_refusal c.in-Err-Seccomp.number).0 (cc)) c.refuse.ensures.tells_the_line
    c.seccomp_line.ensures.tells_the_call

pub returns-in-Err-Seccomp-clause-reads_nothing : goal.returns-in-Err-Seccomp-clause-reads_nothing
returns-in-Err-Seccomp-clause-reads_nothing c = line_reads_nothing c.seccomp_line.result c.refuse.result c.refuse.ensures.tells_the_line

pub returns-in-Err-NotLaunched-clause-answers : goal.returns-in-Err-NotLaunched-clause-answers
returns-in-Err-NotLaunched-clause-answers c =
    refusal_answers c.args.name.now c.args.path.now c.args.unit.now c.args.calls.now c.args.site.now c.args.script.now
    (pushes_none _ (Err c.in-Err-NotLaunched.field-0) c.in-Err-NotLaunched.ensures.seccomp_refusal (λ number is. cc))
    c.tell_refusal.result c.in-Err-NotLaunched.refusal
    (c.in-Err-NotLaunched.ensures.launch_refusal c.in-Err-NotLaunched.refusal (cc)) c.tell_refusal.ensures.tells
