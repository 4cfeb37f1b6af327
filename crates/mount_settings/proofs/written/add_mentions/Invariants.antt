use Rattle.std.proofs.Common.{◌≡◌, ◌++◌}
use Rattle.mount_settings.specs.Written.{of_its_key}
use Rattle.mount_settings.proofs.written.add_mentions.Given as goal

abbrev pub invariant-loop-mention : goal.invariant-loop-mention
invariant-loop-mention l = l.paths.items ++ of_its_key l.key l.mention-iterator.rest.items ≡ l.fn.paths.items ++ of_its_key l.key l.fn.mentions.items
