use Rattle.kernel_model.proofs.Mounted.{other_kinds_first, single_alone, root_is_busy, no_file_system_on_a_file}
use Rattle.kernel_model.proofs.kern_files.laws.order_of_mount.Goals as goal

pub returns-clause-other_kinds_first : goal.returns-clause-other_kinds_first
returns-clause-other_kinds_first c = other_kinds_first

pub returns-clause-remount_of_a_single_mount_alone : goal.returns-clause-remount_of_a_single_mount_alone
returns-clause-remount_of_a_single_mount_alone c = single_alone

pub returns-clause-root_is_busy : goal.returns-clause-root_is_busy
returns-clause-root_is_busy c = root_is_busy

pub returns-clause-no_file_system_on_a_file : goal.returns-clause-no_file_system_on_a_file
returns-clause-no_file_system_on_a_file c = no_file_system_on_a_file
