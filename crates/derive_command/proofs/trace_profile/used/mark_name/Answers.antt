use Rattle.asked_service.specs.call_table.Table.{every_call}
use Rattle.derive_command.proofs.UsedMarks.{name_marked, no_name}
use Rattle.derive_command.proofs.trace_profile.used.mark_name.Goals as goal

pub returns-in-Some : goal.returns-in-Some
returns-in-Some c = λ at lt.
    name_marked (every_call c.args.calls.now) c.args.name.now c.in-Some.place c.args.marks.now c.in-Some.ensures.by_name at lt

pub returns-in-None : goal.returns-in-None
returns-in-None c = λ at lt. no_name (every_call c.args.calls.now) c.args.name.now c.args.marks.now c.in-None.ensures.by_name at
