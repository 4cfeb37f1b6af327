use Rattle.std.proofs.Common.{arith}
use Rattle.std.proofs.lemmas.Bool.{false≢true}
use Rattle.call_rules.proofs.Ascending.{ascends_more, not_ascending}
use Rattle.call_rules.proofs.rules.are_ascending.Goals as goal

pub returns-then-calls-at : goal.returns-then-calls-at
returns-then-calls-at c =
    record { strictly = (λ e. absurd (false≢true e), λ ascending. absurd (not_ascending c.args.calls.now c.loop-at.at _ _ (omega arith) (omega arith) c.if-calls-at.true ascending)) }

pub loop-at-preserved : goal.loop-at-preserved
loop-at-preserved c =
    ascends_more c.args.calls.now c.loop-at.at _ _ (omega arith) (omega arith) c.if-calls-at.false c.loop-at.invariant
