use Rattle.kern_mounts.specs.Mounts.{steps_of}
use Rattle.kern_mounts.proofs.Leaving.{remount_made, one_remounted, remount_entries}
use Rattle.kern_mounts.proofs.laws.changes.remounted_tables.Goals as goal

pub returns : goal.returns
returns c = record {
  flags_of_one_mount = one_remounted;
  entry_of_each_path = λ mounts next place path flags e. remount_entries (steps_of mounts) (steps_of next) place path flags
      (remount_made mounts next place flags e);
}
