use Rattle.std.proofs.Common.{Err, ap}
use Rattle.mount_settings.proofs.Standing.{no_room}
use Rattle.mount_settings.proofs.settings.listed_entries.Goals as goal

pub unreachable-requires : goal.unreachable-requires
unreachable-requires c = no_room c.loop-one.list c.loop-one.one-iterator.rest.items
    c.next.new.self.rest.items
    c.args.entries.items c.in-Some.one (c.in-Err-Full.ensures.full_exactly_at_192.0 (ap Err c.in-Err-Full.field-0-is))
    c.in-Some.ensures.steps.0 c.loop-one.invariant c.requires
