use Rattle.std.proofs.Common.{Some, not, sym, subst}
use Rattle.std.specs.Bool.{OnTrue}
use Rattle.seccomp_compile.specs.bpf_code.Effects.{words_of}
use Rattle.filter_check.specs.Differing.{IsPassed}
use Rattle.filter_check.proofs.Sorting.{not_after_then, not_after_below}
use Rattle.filter_check.proofs.Passing.{on_not}
use Rattle.filter_check.proofs.differences.is_passed.Goals as goal

pub returns-in-Some : goal.returns-in-Some
returns-in-Some c = record {
  passed = subst (λ old. OnTrue (not c.comes_before.result) (IsPassed old c.args.region.now)) (sym c.in-Some.is)
      (on_not c.comes_before.result _ (IsPassed (Some c.in-Some.old) c.args.region.now)
      (λ before input fits within. not_after_then (words_of c.in-Some.old.at) (words_of c.least.result) (words_of input) before
      (not_after_below (words_of c.least.result) (words_of input) (c.least.ensures.is_least input fits within)))
      c.comes_before.ensures.behind);
}
