use Rattle.std.proofs.Common.{ap, sym}
use Rattle.asked_service.proofs.OfUnitInputs.Texts.{text_as}
use Rattle.asked_service.specs.launching.Refusals.{launch_line}
use Rattle.replay_command.specs.Texts.{replay_text, service_text}
use Rattle.replay_command.proofs.Ends.{launch_ends}
use Rattle.replay_command.proofs.printing.print_replay.Goals as goal

pub returns-in-Ok-clause-prints_the_text : goal.returns-in-Ok-clause-prints_the_text
returns-in-Ok-clause-prints_the_text g c =
    text_as g.K.Sink.taken g.K.Sink.puts _ _ (service_text c.args.calls.now c.args.script.now c.in-Ok.service)
    (replay_text c.args.calls.now c.args.script.now c.args.launch.now) c.print_service.result
    (ap (replay_text c.args.calls.now c.args.script.now) (sym c.in-Ok.is)) c.print_service.ensures.prints_the_text

pub returns-in-Err-clause-prints_the_text : goal.returns-in-Err-clause-prints_the_text
returns-in-Err-clause-prints_the_text g c =
    text_as g.K.Sink.taken g.K.Sink.puts _ _ (launch_line c.in-Err.error) (replay_text c.args.calls.now c.args.script.now
    c.args.launch.now) c.put_line.result
    (ap (replay_text c.args.calls.now c.args.script.now) (sym c.in-Err.is))
    (c.put_line.ensures.prints_the_line _ c.launch_line.ensures.tells_the_launch (launch_ends c.in-Err.error))
