use Rattle.std.proofs.Common.{subst}
use Rattle.filter_check.specs.filter_paths.Covered.{StepsTo}
use Rattle.filter_check.proofs.Behind.{ok_more}
use Rattle.filter_check.proofs.Passing.{lesser_passed, lesser_end, lesser_one, lesser_two}
use Rattle.filter_check.proofs.walking.+least_at.Goals as goal

pub returns-then-is_passed : goal.returns-then-is_passed
returns-then-is_passed t c = record { lesser = lesser_passed c.args.ours.now c.args.state c.args.theirs c.args.old c.if-is_passed.ensures.passed }

pub returns-in-End : goal.returns-in-End
returns-in-End t c =
    let steps = subst (StepsTo c.args.ours.now c.args.state) c.in-End.is c.in_ok-end.ensures.steps in
    record { lesser = lesser_end c.args.ours.now c.args.state c.args.theirs c.args.old c.lesser.result c.in-End.end steps.0 steps.1 steps.2 c.lesser.ensures }

pub returns-in-One : goal.returns-in-One
returns-in-One t c =
    let steps = subst (StepsTo c.args.ours.now c.args.state) c.in-One.is c.in_ok-end.ensures.steps in
    record {
      lesser = ok_more c.least_at.result _ _
          (λ new h. lesser_one c.args.ours.now c.args.state c.in-One.state c.args.theirs c.args.old new steps.0 steps.1 h)
          c.least_at.ensures.lesser;
    }

pub returns-in_ok-least-in-Two : goal.returns-in_ok-least-in-Two
returns-in_ok-least-in-Two t c =
    let steps = subst (StepsTo c.args.ours.now c.args.state) c.in-Two.is c.in_ok-end.ensures.steps in
    record {
      lesser = ok_more c.least_at-in-Two-2.result _ _
          (λ new h. lesser_two c.args.ours.now c.args.state c.in-Two.first c.in-Two.second c.args.theirs c.args.old
          c.in_ok-least-in-Two.least new steps.0 steps.1 steps.3 c.in_ok-least-in-Two.ensures.lesser h)
          c.least_at-in-Two-2.ensures.lesser;
    }
