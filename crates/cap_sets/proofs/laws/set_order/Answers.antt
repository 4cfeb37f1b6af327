use Rattle.cap_sets.proofs.Members.{same_sets, within_both}
use Rattle.cap_sets.proofs.laws.set_order.Goals as goal

pub returns-clause-same_members : goal.returns-clause-same_members
returns-clause-same_members c = same_sets

pub returns-clause-each_within_the_other : goal.returns-clause-each_within_the_other
returns-clause-each_within_the_other c = within_both
