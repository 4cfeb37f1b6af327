use Rattle.kern_mounts.proofs.Backing.{backed_locked}
use Rattle.kern_mounts.proofs.Calls.{umount_backed, remount_backed, empty_backed, bind_backed, changes_backed}
use Rattle.kern_mounts.proofs.laws.locks.backed_mounts.Goals as goal

pub returns : goal.returns
returns c = record {
  umount = umount_backed;
  remount = remount_backed;
  empty = empty_backed;
  bind = bind_backed;
  copied = backed_locked;
  any_calls = λ shows mounts last widens h calls. changes_backed shows widens h calls;
}
