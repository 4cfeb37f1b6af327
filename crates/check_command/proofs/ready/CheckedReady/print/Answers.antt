use Rattle.unit_inputs.proofs.Texts.{printed_text}
use Rattle.check_command.proofs.Ends.{outcome_ends}
use Rattle.check_command.proofs.ready.CheckedReady.print.Goals as goal

pub returns-clause-puts_the_text : goal.returns-clause-puts_the_text
returns-clause-puts_the_text g c =
    printed_text g.K.Sink.taken g.K.Sink.puts _ _ _ c.put_line.result
    (c.put_line.ensures.prints_the_line _ c.outcome_line.ensures.tells_the_outcome (outcome_ends c.args.self.now.outcome))
