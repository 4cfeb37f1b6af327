use Rattle.std.proofs.Common.{refl, ◌++◌}
use Rattle.why_command.specs.deciding_lines.Tried.{tried_of}
use Rattle.asked_service.specs.Answers.{Denied}
use Rattle.asked_service.specs.AnswerLines.{answer_lines}
use Rattle.why_command.specs.Lines.{reason_text}
use Rattle.why_command.specs.Prints.{TellsService}
use Rattle.why_command.proofs.Told.{tells_denied, told_as}
use Rattle.why_command.proofs.answering.tell_denied.Goals as goal

pub returns : goal.returns
returns c =
    let tried = tried_of c.args.trial.now in
    let told = c.in_ok-reason.reason in
    told_as (TellsService tried c.args.service)
    (answer_lines tried.inputs.calls tried.inputs.site (Denied tried.question) ++ reason_text tried.inputs.unit told)
    (tells_denied tried c.args.service c.args.trial.now.question refl c.requires.is_so told c.in_ok-reason.ensures.is_the_reason _ refl)
    c.denied_text.result c.denied_text.ensures.verdict_and_reason
