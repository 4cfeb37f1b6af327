use Rattle.std.proofs.Common.{◌≡◌, ◌++◌}
use Rattle.mount_settings.proofs.settings.listed_entries.Given as goal

abbrev pub invariant-loop-one : goal.invariant-loop-one
invariant-loop-one l = l.list ++ l.one-iterator.rest.items ≡ l.fn.entries.items
