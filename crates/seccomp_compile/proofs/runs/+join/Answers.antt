use Rattle.std.proofs.Common.{◌∷◌, [], refl, ap, ◌∙◌, arith}
use Rattle.seccomp_compile.specs.declared.tree.Comparison.TheVariants.{AtLeast}
use Rattle.seccomp_compile.specs.Decisions.{decision_of, splits}
use Rattle.seccomp_compile.specs.Runs.{one}
use Rattle.seccomp_compile.proofs.Tiles.{joined_lowest, popped}
use Rattle.seccomp_compile.proofs.runs.+join.Goals as goal

pub returns-then-count-eq1 : goal.returns-then-count-eq1
returns-then-count-eq1 t c = record {
  joins = record {
    taken = c.unwrap.result ∷ [];
    split = popped c.args.runs.now.items c.pop.new.self.items c.pop.result c.unwrap.result c.pop.ensures.items c.unwrap.ensures;
    counted = omega (arith, c.if-count-eq1.true);
    joined = one c.unwrap.result;
  };
}

pub returns : goal.returns
returns t c = record {
  joins = joined_lowest c.args.runs.now.items c.join.new.runs.items c.join-2.new.runs.items c.args.count _ _ c.in_ok-low.low
      c.in_ok-high.high _ c.in_ok-low.ensures.joins c.in_ok-high.ensures.joins (omega arith) (omega arith) (omega arith) refl
      (ap (λ tree. splits AtLeast c.in_ok-high.high.from (decision_of tree) (decision_of c.in_ok-new-2.field-0.value))
      c.in_ok-new.ensures.ok
      ∙ ap (λ tree. splits AtLeast c.in_ok-high.high.from (decision_of c.in_ok-low.low.tree) (decision_of tree)) c.in_ok-new-2.ensures.ok);
}
