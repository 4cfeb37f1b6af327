use Rattle.std.proofs.Common.{refl, true}
use Rattle.kern_creds.proofs.SoundExec.{sound-exec}
use Rattle.kern_creds.proofs.NewerExec.{sound-entered, ids_stay, by_file}
use Rattle.kern_creds.proofs.laws.user_namespaces.Goals as goal

pub returns-clause-entering_is_sound : goal.returns-clause-entering_is_sound
returns-clause-entering_is_sound c = sound-entered

pub returns-clause-entering_keeps : goal.returns-clause-entering_keeps
returns-clause-entering_keeps c = λ creds. (refl, refl, refl, refl, refl, refl)

pub returns-clause-execve_stays_sound : goal.returns-clause-execve_stays_sound
returns-clause-execve_stays_sound c = λ creds now file nosuid k e. (sound-exec true creds file nosuid k).held now e

pub returns-clause-execve_keeps_ids : goal.returns-clause-execve_keeps_ids
returns-clause-execve_keeps_ids c = λ creds now file nosuid e. ids_stay creds now file nosuid e

pub returns-clause-root_is_as_others : goal.returns-clause-root_is_as_others
returns-clause-root_is_as_others c = λ creds now file nosuid on e. by_file creds now file nosuid on e
