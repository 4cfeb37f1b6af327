use Rattle.std.proofs.Common.{None, get_or}
use Rattle.call_table.specs.Lookups.{group_named}
use Rattle.filter_settings.proofs.Marked.{members_marked, none_marked_by}
use Rattle.filter_settings.proofs.filter_rules.marks.mark_group.Goals as goal

pub returns-in-Some : goal.returns-in-Some
returns-in-Some c = λ at lt.
    members_marked at c.args.what (get_or c.args.marks.now at None) c.in-Some.members.now
    (group_named c.args.name.now c.args.table.now.groups) (get_or c.mark_all.new.marks at None) c.in-Some.ensures.by_name
    (c.mark_all.ensures at lt)

pub returns-in-None : goal.returns-in-None
returns-in-None c = λ at lt.
    none_marked_by at c.args.what (get_or c.args.marks.now at None) (group_named c.args.name.now c.args.table.now.groups)
    c.in-None.ensures.by_name
