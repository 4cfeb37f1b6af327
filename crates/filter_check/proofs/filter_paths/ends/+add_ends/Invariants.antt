use Rattle.std.proofs.Common.{length, ◌-◌}
use Rattle.filter_check.proofs.filter_paths.ends.+add_ends.Given as goal

abbrev pub decreases-add_ends : goal.decreases-add_ends
decreases-add_ends l = length l.insns.now - l.state.at
