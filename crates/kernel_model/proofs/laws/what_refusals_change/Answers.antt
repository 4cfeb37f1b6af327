use Rattle.kernel_model.proofs.Cases.{refused_changes_nothing, killed_ends_the_caller}
use Rattle.kernel_model.proofs.laws.what_refusals_change.Goals as goal

pub returns-clause-refused_changes_nothing : goal.returns-clause-refused_changes_nothing
returns-clause-refused_changes_nothing c = refused_changes_nothing

pub returns-clause-killed_ends_the_caller : goal.returns-clause-killed_ends_the_caller
returns-clause-killed_ends_the_caller c = killed_ends_the_caller
