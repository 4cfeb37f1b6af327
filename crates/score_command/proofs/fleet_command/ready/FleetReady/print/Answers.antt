use Rattle.std.proofs.Common.{ap}
use Rattle.unit_inputs.proofs.Texts.{printed_text, text_as}
use Rattle.score_command.specs.fleet_command.Texts.{fleet_text}
use Rattle.score_command.proofs.fleet_command.ready.FleetReady.print.Goals as goal

pub returns-clause-puts_the_text : goal.returns-clause-puts_the_text
returns-clause-puts_the_text g c =
    printed_text g.K.Sink.taken g.K.Sink.puts _ _ _ c.print_fleet.result
    (text_as g.K.Sink.taken g.K.Sink.puts _ _ (fleet_text c.deref.result.now) _ c.print_fleet.result (ap fleet_text c.deref.ensures.value)
    c.print_fleet.ensures.prints_the_text)
