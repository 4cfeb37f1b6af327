use Rattle.std.proofs.Common.{subst, sym}
use Rattle.tighten_command.specs.tightening.Open.{AreOpenIn}
use Rattle.tighten_command.proofs.tightening.wishes.StoredWish.new.Goals as goal

pub invariant_of-result-clause-keeps : goal.invariant_of-result-clause-keeps
invariant_of-result-clause-keeps g c = λ rows said. subst (AreOpenIn rows.now) (sym c.new.ensures.holds_them) (c.requires.keeps rows said)
