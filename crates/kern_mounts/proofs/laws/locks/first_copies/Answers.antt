use Rattle.kern_mounts.proofs.Backing.{backed_first}
use Rattle.kern_mounts.proofs.Mounts.{locked_steps}
use Rattle.kern_mounts.proofs.laws.locks.first_copies.Goals as goal

pub returns : goal.returns
returns c = record { same_entries = locked_steps; backed = backed_first }
