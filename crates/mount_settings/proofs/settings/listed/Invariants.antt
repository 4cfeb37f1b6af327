use Rattle.std.proofs.Common.{◌≡◌, ◌++◌}
use Rattle.mount_settings.proofs.settings.listed.Given as goal

abbrev pub invariant-loop-mention : goal.invariant-loop-mention
invariant-loop-mention l = l.list ++ l.mention-iterator.rest.items ≡ l.fn.mentions.items
