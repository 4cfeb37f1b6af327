use Rattle.kern_creds.specs.Start.{start}
use Rattle.kern_creds.proofs.SoundCalls.{sound-start}
use Rattle.kern_creds.proofs.Runs.{sound_by_call, sound_by_run}
use Rattle.kern_creds.proofs.laws.sets_stay_sound.Goals as goal

pub returns : goal.returns
returns c = record {
  at_the_start = sound-start;
  kept_by_each_call = sound_by_call;
  held_by_all_that_starts = λ now run. sound_by_run start now sound-start run;
}
