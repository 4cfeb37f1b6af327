use Rattle.asked_service.specs.launching.Starting.{given}
use Rattle.why_command.proofs.Asked.{refused_as}
use Rattle.why_command.proofs.deciding_lines.starting.start.Goals as goal

pub returns-in-Ok : goal.returns-in-Ok
returns-in-Ok c = c.in-Ok.ensures.launches

pub returns-in-Err : goal.returns-in-Err
returns-in-Err c = refused_as c.args.name.now (given c.args.unit.now c.args.calls.now c.args.site.now) c.in-Err.refusal c.refused.result
    c.in-Err.ensures.launches c.refused.ensures
