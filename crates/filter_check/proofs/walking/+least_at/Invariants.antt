use Rattle.std.proofs.Common.{length, ◌-◌}
use Rattle.filter_check.proofs.walking.+least_at.Given as goal

abbrev pub decreases-least_at : goal.decreases-least_at
decreases-least_at l = length l.ours.now - l.state.at
