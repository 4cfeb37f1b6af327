use Rattle.kernel_model.proofs.Unmounted.{no_other_flags, root_stays}
use Rattle.kernel_model.proofs.kern_files.laws.limits_of_umount.Goals as goal

pub returns-clause-no_other_flags : goal.returns-clause-no_other_flags
returns-clause-no_other_flags c = no_other_flags

pub returns-clause-root_stays : goal.returns-clause-root_stays
returns-clause-root_stays c = root_stays
