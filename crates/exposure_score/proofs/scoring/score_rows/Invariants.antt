use Rattle.std.proofs.Common.{take}
use Rattle.std.specs.List.{AllZip}
use Rattle.exposure_score.specs.Facts.{Gives}
use Rattle.exposure_score.specs.Rows.{IsRow}
use Rattle.exposure_score.proofs.scoring.score_rows.Given as goal

abbrev pub invariant-loop-test : goal.invariant-loop-test
invariant-loop-test g l =
    AllZip
    (IsRow (λ one. one.id) (λ one. Gives (λ shown answer. (goal.Fn-dyn g).post (one.check.vtable, one.check.value) (shown, tt) answer)
    one.range l.facts) l.facts.tests l.tests)
    (take l.test-index l.policy) l.rows.items
