use Rattle.asked_service.specs.launching.Starting.{given}
use Rattle.why_command.proofs.Asked.{as_without}
use Rattle.why_command.proofs.deciding_lines.starting.start_without.Goals as goal

pub returns : goal.returns
returns c = record {
  starts = as_without c.args.name.now (given c.args.unit.now c.args.calls.now c.args.site.now) c.args.places.now c.in_ok-less.less
      c.in_ok-less.ensures.lacks_them c.start.result c.start.ensures;
}
