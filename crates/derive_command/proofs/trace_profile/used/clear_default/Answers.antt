use Rattle.std.proofs.Common.{codes, false, get_or}
use Rattle.asked_service.specs.call_table.Lookups.{group_named}
use Rattle.derive_command.proofs.UsedMarks.{members_cleared, none_cleared}
use Rattle.derive_command.proofs.trace_profile.used.clear_default.Goals as goal

pub returns-in-Some : goal.returns-in-Some
returns-in-Some c = λ at lt.
    members_cleared at (get_or c.args.marks.now at false) c.in-Some.members.now (group_named (codes "default") c.args.calls.now.groups)
    (get_or c.clear_all.new.marks at false) c.in-Some.ensures.by_name (c.clear_all.ensures at lt)

pub returns-in-None : goal.returns-in-None
returns-in-None c = λ at lt.
    none_cleared at (get_or c.args.marks.now at false) (group_named (codes "default") c.args.calls.now.groups) c.in-None.ensures.by_name
