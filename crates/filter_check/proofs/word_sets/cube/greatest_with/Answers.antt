use Rattle.filter_check.proofs.Bits.{within_greatest}
use Rattle.filter_check.proofs.word_sets.cube.greatest_with.Goals as goal

pub returns : goal.returns
returns c = record { covers = λ word lt h. within_greatest c.args.known c.args.bits word c.ranges.known.fits lt h }
