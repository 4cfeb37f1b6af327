use Rattle.kern_mounts.proofs.Finding.{an_empty_directory, nothing_below}
use Rattle.kern_mounts.proofs.laws.finding.Goals as goal

pub returns-clause-an_empty_directory : goal.returns-clause-an_empty_directory
returns-clause-an_empty_directory c = an_empty_directory

pub returns-clause-nothing_below_an_empty_directory : goal.returns-clause-nothing_below_an_empty_directory
returns-clause-nothing_below_an_empty_directory c = nothing_below
