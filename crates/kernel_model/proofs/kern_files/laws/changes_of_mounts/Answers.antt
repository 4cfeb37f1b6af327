use Rattle.kernel_model.proofs.MountsCall.{mount_changes, umount_changes}
use Rattle.kernel_model.proofs.kern_files.laws.changes_of_mounts.Goals as goal

pub returns : goal.returns
returns c = record { mount = mount_changes; umount = umount_changes }
