use Rattle.kernel_model.proofs.Oldest.{programs_stay}
use Rattle.kernel_model.proofs.Kernels.{worlds_stay, told_stays}
use Rattle.kernel_model.proofs.laws.what_stays.Goals as goal

pub returns-clause-oldest_programs : goal.returns-clause-oldest_programs
returns-clause-oldest_programs c = programs_stay

pub returns-clause-what_holds_of_worlds : goal.returns-clause-what_holds_of_worlds
returns-clause-what_holds_of_worlds c = worlds_stay

pub returns-clause-what_is_told : goal.returns-clause-what_is_told
returns-clause-what_is_told c = told_stays
