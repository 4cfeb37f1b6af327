use Rattle.asked_service.specs.launching.Starting.{given}
use Rattle.effect_command.proofs.Started.{behind_reads_nothing, starts_with_ok, starts_with_stop}
use Rattle.effect_command.proofs.starting.start_with.Goals as goal

pub returns-in-Ok-clause-starts : goal.returns-in-Ok-clause-starts
returns-in-Ok-clause-starts c = starts_with_ok c.args.name.now (given c.args.longer.now c.args.calls.now c.args.site.now) c.in-Ok.launch c.in-Ok.ensures.starts

pub returns-in-Err-clause-starts : goal.returns-in-Err-clause-starts
returns-in-Err-clause-starts c = starts_with_stop c.args.name.now (given c.args.longer.now c.args.calls.now c.args.site.now) c.in-Err.stop c.behind_with.result c.in-Err.ensures.starts c.behind_with.ensures

pub returns-in-Err-clause-reads_nothing : goal.returns-in-Err-clause-reads_nothing
returns-in-Err-clause-reads_nothing c = behind_reads_nothing c.in-Err.stop c.behind_with.result c.in-Err.ensures.reads_nothing c.behind_with.ensures
