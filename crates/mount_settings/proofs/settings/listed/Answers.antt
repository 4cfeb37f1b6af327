use Rattle.std.proofs.Common.{Err, ap}
use Rattle.mount_settings.proofs.Standing.{no_room}
use Rattle.mount_settings.proofs.settings.listed.Goals as goal

pub unreachable-requires : goal.unreachable-requires
unreachable-requires c = no_room c.loop-mention.list c.loop-mention.mention-iterator.rest.items c.next.new.self.rest.items
    c.args.mentions.items c.in-Some.mention (c.in-Err-Full.ensures.full_exactly_at_192.0 (ap Err c.in-Err-Full.field-0-is))
    c.in-Some.ensures.steps.0 c.loop-mention.invariant c.requires
