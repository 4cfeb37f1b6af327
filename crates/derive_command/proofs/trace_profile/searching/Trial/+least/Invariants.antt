use Rattle.std.proofs.Common.{length}
use Rattle.derive_command.proofs.trace_profile.searching.Trial.+least.Given as goal

abbrev pub decreases-least : goal.decreases-least
decreases-least l = length l.names.items
