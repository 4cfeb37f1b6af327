use Rattle.reach_paths.proofs.Mounted as mounted
use Rattle.reach_paths.proofs.laws.mounted_twice.Goals as goal

pub returns : goal.returns
returns c = record { shows_all = mounted.mounted_twice }
