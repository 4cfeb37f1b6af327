use Rattle.std.proofs.Common.{◌-◌, ◌^◌}
use Rattle.filter_check.proofs.word_sets.searching.+least_of.Given as goal

abbrev pub decreases-least_of : goal.decreases-least_of
decreases-least_of l = 2 ^ 32 - l.cube.known
