use Rattle.std.proofs.Common.{◌≡◌, arith}
use Rattle.seccomp_compile.specs.Decisions.{decision_of, ends}
use Rattle.seccomp_compile.specs.Rules.{DecidesValues, values_onto}
use Rattle.seccomp_compile.proofs.Rising.{if_ok}
use Rattle.seccomp_compile.proofs.CaseTrees.{values_by_turn}
use Rattle.seccomp_compile.proofs.values.values_tree.Goals as goal

pub returns-then-cases-le-MOST_IN_TURN : goal.returns-then-cases-le-MOST_IN_TURN
returns-then-cases-le-MOST_IN_TURN c =
    record {
      decides_the_values =
          if_ok (λ tree. decision_of tree ≡ values_onto c.args.cases.now (ends c.args.rest))
          (λ tree. DecidesValues c.args.cases.now c.args.rest (decision_of tree)) c.values_in_turn.result
          (λ tree e. values_by_turn c.args.cases.now c.args.rest (decision_of tree) (omega (arith, c.if-cases-le-MOST_IN_TURN.true)) e)
          c.values_in_turn.ensures;
    }
