use Rattle.std.proofs.Common.{false, get_or}
use Rattle.derive_command.proofs.UsedMarks.{call_marked, no_call}
use Rattle.derive_command.proofs.trace_profile.used.mark_call.Goals as goal

pub returns-in-Some : goal.returns-in-Some
returns-in-Some c = λ at lt.
    call_marked c.args.calls.now c.args.call.now at (get_or c.args.marks.now at false) c.in-Some.name.now
    (get_or c.mark_name.new.marks at false) c.in-Some.ensures.by_number (c.mark_name.ensures at lt)

pub returns-in-None : goal.returns-in-None
returns-in-None c = λ at lt.
    no_call c.args.calls.now c.args.call.now at (get_or c.args.marks.now at false) c.in-None.ensures.by_number
