use Rattle.unit_inputs.proofs.Texts.{printed_text}
use Rattle.score_command.proofs.ready.ScoredReady.print.Goals as goal

pub returns-clause-puts_the_text : goal.returns-clause-puts_the_text
returns-clause-puts_the_text g c = printed_text g.K.Sink.taken g.K.Sink.puts _ _ _ c.print_score.result
    c.print_score.ensures.prints_the_text
