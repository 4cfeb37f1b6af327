use Rattle.kern_mounts.proofs.Plain.{umount_plain, remount_plain, push_plain, bind_plain, steps_plain, plain_again}
use Rattle.kern_mounts.proofs.laws.locks.plain_mounts.Goals as goal

pub returns : goal.returns
returns c = record {
  umounted = umount_plain;
  remounted = remount_plain;
  pushed = push_plain;
  bound = bind_plain;
  of_entries = steps_plain;
  plain_again = plain_again;
}
