use Rattle.cap_sets.proofs.Naming.{distinct}
use Rattle.cap_sets.proofs.laws.distinct_names.Goals as goal

pub returns : goal.returns
returns c = record { distinct = distinct }
