use Rattle.tighten_command.specs.tightening.Searching.{outside}
use Rattle.tighten_command.proofs.tightening.trial.Trial.+most.Given as goal

abbrev pub decreases-most : goal.decreases-most
decreases-most g l = outside l.held.set.items
