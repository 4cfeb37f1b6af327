use Rattle.filter_check.proofs.Passing.{on_true}
use Rattle.filter_check.proofs.Earlier.{represents_it}
use Rattle.filter_check.proofs.representing.represents.Goals as goal

pub returns : goal.returns
returns c = record {
  for_such_programs = on_true c.have_same_sets.result _ _
      (λ same code program form loads. represents_it code c.args.loaded.now c.args.one.now c.args.other.now c.least-2.result c.least.result
      record {
        answer = c.if-one-other.false;
        least_is = record { fits = c.least-2.ensures.fits; is_one = c.least-2.ensures.is_one; is_least = c.least-2.ensures.is_least };
        last_is = record { fits = c.least.ensures.fits; is_one = c.least.ensures.is_one; is_least = c.least.ensures.is_least };
        order = c.if-comes_before.ensures.behind;
        same = same;
      }
      program form loads)
      c.have_same_sets.ensures.same;
}
