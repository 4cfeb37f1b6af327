use Rattle.kernel_model.proofs.MountsCall.{mount_stays_plain, umount_stays_plain}
use Rattle.kernel_model.proofs.kern_files.laws.calls_on_plain_mounts.Goals as goal

pub returns : goal.returns
returns c = record { mounted = mount_stays_plain; umounted = umount_stays_plain }
