use Rattle.asked_service.proofs.OfUnitInputs.Texts.{printed_text}
use Rattle.replay_command.proofs.ready.ReplayReady.print.Goals as goal

pub returns-clause-puts_the_text : goal.returns-clause-puts_the_text
returns-clause-puts_the_text g c = printed_text g.K.Sink.taken g.K.Sink.puts _ _ _ c.print_replay.result
    c.print_replay.ensures.prints_the_text
