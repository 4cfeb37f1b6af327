use Rattle.kern_mounts.proofs.Calls.{path_backed}
use Rattle.kern_mounts.proofs.laws.locks.backed_paths.Goals as goal

pub returns : goal.returns
returns c = record { shown = path_backed }
