use Rattle.filter_check.proofs.Bits.{free_unknown, none_free}
use Rattle.filter_check.proofs.word_sets.choosing.free_bits.Goals as goal

pub returns-clause-unknown : goal.returns-clause-unknown
returns-clause-unknown c = λ place lt set. free_unknown c.args.mask c.args.known place c.ranges.known.fits lt set

pub returns-clause-none : goal.returns-clause-none
returns-clause-none c = λ free word bits h. none_free c.args.mask c.args.known word bits c.ranges.mask.fits c.ranges.known.fits free h
