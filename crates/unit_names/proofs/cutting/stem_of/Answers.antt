use Rattle.std.specs.Prelude.{codes}
use Rattle.unit_names.proofs.Endings.{before_end_known}
use Rattle.unit_names.proofs.cutting.stem_of.Goals as goal

pub returns : goal.returns
returns c = record {
  before_the_ending = before_end_known (codes ".service") c.args.text.now c.strip_suffix.result
      c.strip_suffix.ensures.cases;
}
