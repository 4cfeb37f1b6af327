use Rattle.std.proofs.Common.{◌≡◌, ◌+◌, ◌∙◌, ap, arith, sym, subst, length, List}
use Rattle.ceilings.specs.kernel_laws.Launched.{launch_of}
use Rattle.open_calls.specs.Firsts.{IsGained}
use Rattle.open_calls.specs.declared.gains.Gained.{Gained}
use Rattle.open_calls.proofs.Keeping.{GainedFrom, kept_each, kept_more, long_more}
use Rattle.open_calls.proofs.gains.gains.Goals as goal

pub loop-cap-preserved : goal.loop-cap-preserved
loop-cap-preserved c =
    let launch = launch_of c.args.world.now in
    let before = c.loop-cap.list.items in
    let one = c.found_way.result in
    let n : length before ≡ 0 + length before = omega arith in
    let here = subst (λ n. IsGained launch n one) (sym c.loop-cap.invariant.0 ∙ n) c.found_way.ensures in
    let P : List Gained → Type 0 = GainedFrom launch 0 in
    (ap length c.in_ok-push.ensures.items ∙ long_more before one ∙ ap (λ n. n + 1) c.loop-cap.invariant.0, subst P (sym c.in_ok-push.ensures.items) (kept_more launch 0 before one c.loop-cap.invariant.1 here))

pub returns : goal.returns
returns c = kept_each (launch_of c.args.world.now) c.loop-cap.list.items c.loop-cap.invariant.1
