use Rattle.std.proofs.Common.{◌≡◌, ◌<◌, ◌-◌, suc, length, ap, ◌∙◌, sym, subst, arith, true, false}
use Rattle.seccomp_compile.specs.bpf_code.Effects.{words_of}
use Rattle.filter_check.specs.Differing.{IsLeastFrom}
use Rattle.filter_check.specs.filter_paths.Regions.{AreWithin, sets_of}
use Rattle.filter_check.proofs.Kept.{kept_from, least_without, least_with, least_none, least_of_kept, mark_at}
use Rattle.filter_check.proofs.walking.least_difference.Goals as goal

pub loop-at-init : goal.loop-at-init
loop-at-init c = record {
  inside = omega arith;
  least = least_none c.in_ok-marks.marks.items c.args.ends.now (length c.args.ends.now) c.args.ours.now (omega arith);
}

pub loop-at-preserved-then-index : goal.loop-at-preserved-then-index
loop-at-preserved-then-index c =
    let marks = c.in_ok-marks.marks.items in
    let ends = c.args.ends.now in
    let next : c.loop-at.at ≡ suc (c.loop-at.at - 1) = omega (arith, c.loop-at-test.true) in
    let less : c.loop-at.at - 1 < length ends = omega (arith, c.loop-at.invariant.inside, c.loop-at-test.true) in
    let lt : c.loop-at.at - 1 < length marks = omega (arith, less, c.in_ok-marks.ensures.one_each) in
    record {
      inside = omega (arith, c.loop-at.invariant.inside);
      least = least_without marks ends (c.loop-at.at - 1) c.args.ours.now c.loop-at.least lt less
          (mark_at marks (c.loop-at.at - 1) c.index.result.now true lt c.index.ensures c.if-index.true)
          (subst (λ at. IsLeastFrom (kept_from at marks ends) c.args.ours.now c.loop-at.least) next c.loop-at.invariant.least);
    }

pub loop-at-preserved : goal.loop-at-preserved
loop-at-preserved c =
    let marks = c.in_ok-marks.marks.items in
    let ends = c.args.ends.now in
    let same = ap sets_of c.start-own.ensures.region ∙ c.in_ok-copy.ensures.same in
    let next : c.loop-at.at ≡ suc (c.loop-at.at - 1) = omega (arith, c.loop-at-test.true) in
    let less : c.loop-at.at - 1 < length ends = omega (arith, c.loop-at.invariant.inside, c.loop-at-test.true) in
    let lt : c.loop-at.at - 1 < length marks = omega (arith, less, c.in_ok-marks.ensures.one_each) in
    record {
      inside = omega (arith, c.loop-at.invariant.inside);
      least = least_with marks ends (c.loop-at.at - 1) c.index-ends-at.result c.args.ours.now c.start-own.result c.loop-at.least
          c.in_ok-least.least lt less (sym c.index-ends-at.is)
          (mark_at marks (c.loop-at.at - 1) c.index.result.now false lt c.index.ensures c.if-index.false)
          (subst (λ at. IsLeastFrom (kept_from at marks ends) c.args.ours.now c.loop-at.least) next c.loop-at.invariant.least)
          record {
            start = record { first = c.start-own.ensures.first; nothing = c.start-own.ensures.nothing };
            there = λ input within. subst (λ sets. AreWithin sets (words_of input)) same within;
            back = λ input within. subst (λ sets. AreWithin sets (words_of input)) (sym same) within;
          }
          c.in_ok-least.ensures.lesser;
    }

pub returns : goal.returns
returns c =
    let marks = c.in_ok-marks.marks.items in
    let ends = c.args.ends.now in
    let none : c.loop-at.at ≡ 0 = omega (arith, c.loop-at-test.false) in
    record {
      least = least_of_kept marks ends c.args.ours.now c.loop-at.least c.in_ok-marks.ensures.leaves_out
          (subst (λ at. IsLeastFrom (kept_from at marks ends) c.args.ours.now c.loop-at.least) none c.loop-at.invariant.least);
    }
