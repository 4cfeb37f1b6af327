use Rattle.std.proofs.Common.{subst, sym}
use Rattle.filter_check.specs.declared.word_sets.choosing.Choice.TheVariants.{Misses}
use Rattle.filter_check.specs.word_sets.Words.{IsChoice}
use Rattle.filter_check.proofs.Conditions.{choice_still_missed}
use Rattle.filter_check.proofs.word_sets.choosing.with_place.Goals as goal

pub returns-in-Misses : goal.returns-in-Misses
returns-in-Misses c = record {
  chooses = λ before condition cube h lt unknown. choice_still_missed before condition cube
      (subst (IsChoice before cube) c.in-Misses.is h);
}
