use Rattle.std.proofs.Common.{refl}
use Rattle.kern_mounts.specs.Mounts.{steps_of}
use Rattle.kern_mounts.proofs.Unmounting.{removes, trims, unmounts_trim}
use Rattle.kern_mounts.proofs.Leaving.{umount_elsewhere, umount_shows}
use Rattle.kern_mounts.proofs.laws.changes.unmounted_tables.Goals as goal

pub returns : goal.returns
returns c = record {
  removes = λ mounts next path detach done. removes path detach mounts next done;
  never_the_root = λ mounts detach. refl;
  elsewhere = λ mounts next path other detach done. umount_elsewhere (steps_of mounts) (steps_of next) path other
      (removes path detach mounts next done);
  at_the_path_and_below = umount_shows;
  a_part_with_the_first = λ mounts next path detach top done. trims path detach mounts next top done;
  a_part_by_any_calls = λ table last top calls. unmounts_trim calls top;
}
