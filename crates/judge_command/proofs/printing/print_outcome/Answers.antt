use Rattle.std.proofs.Common.{ap, sym}
use Rattle.asked_service.proofs.OfUnitInputs.Texts.{text_as}
use Rattle.asked_service.specs.launching.Refusals.{launch_line}
use Rattle.judge_command.specs.Asked.{asked_text}
use Rattle.judge_command.specs.Started.{told_text}
use Rattle.judge_command.proofs.Ends.{launch_ends}
use Rattle.judge_command.proofs.printing.print_outcome.Goals as goal

pub returns-in-Asked-clause-prints_the_text : goal.returns-in-Asked-clause-prints_the_text
returns-in-Asked-clause-prints_the_text g c =
    text_as g.K.Sink.taken g.K.Sink.puts _ _ (asked_text c.in-Asked.asked) (told_text c.args.outcome.now) c.print_asked.result
    (ap told_text (sym c.in-Asked.is))
    c.print_asked.ensures.prints_the_text

pub returns-in-Refused-clause-prints_the_text : goal.returns-in-Refused-clause-prints_the_text
returns-in-Refused-clause-prints_the_text g c =
    text_as g.K.Sink.taken g.K.Sink.puts _ _ (launch_line c.in-Refused.error) (told_text c.args.outcome.now) c.put_line.result
    (ap told_text (sym c.in-Refused.is))
    (c.put_line.ensures.prints_the_line _ c.launch_line.ensures.tells_the_launch (launch_ends c.in-Refused.error))
