use Rattle.std.proofs.Common.{bit_and}
use Rattle.std.proofs.lemmas.Bool.{eqb-true}
use Rattle.filter_check.proofs.word_sets.known.Cube.greatest.Goals as goal

pub returns : goal.returns
returns c = record {
  covers = λ word lt h. c.greatest_with.ensures.covers word lt (eqb-true (bit_and word c.args.self.known) c.args.self.bits h);
}
