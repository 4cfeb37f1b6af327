use Rattle.filter_check.proofs.Bits.{highest}
use Rattle.filter_check.proofs.word_sets.choosing.highest_place.Goals as goal

pub returns-clause-set : goal.returns-clause-set
returns-clause-set c = let h = highest c.args.word c.if-word-eq0.false c.ranges.word.fits in (h.1, h.2)
