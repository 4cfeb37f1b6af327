use Rattle.std.proofs.Common.{◌<◌, length, arith, sym, subst}
use Rattle.bpf_code.specs.Reading.{RefusesCode, faulty, no_return, unstored}
use Rattle.bpf_code.proofs.Refusals.{unstored_within, unstored_at}
use Rattle.bpf_code.proofs.program.check_insns.Goals as goal

pub returns-in-Some-clause-refused : goal.returns-in-Some-clause-refused
returns-in-Some-clause-refused c = λ h. subst (RefusesCode c.args.insns.now) (sym c.at.ensures.of_the_fault) (faulty c.in-Some.place c.in-Some.fault c.in-Some.ensures.the_first)

pub returns-then-not-ends-clause-refused : goal.returns-then-not-ends-clause-refused
returns-then-not-ends-clause-refused c = λ h. no_return c.in_default.ensures.the_first (sym c.if-not-ends.ensures.in_a_return)

pub overflow_cast-result : goal.overflow_cast-result
overflow_cast-result c =
    let inside : c.in-Some-2.place < length c.args.insns.now = unstored_within _ _ (unstored_at _ _ _ c.in-Some-2.is c.in_ok-place.ensures.the_first) in
    omega arith

pub returns-in-Some-2-clause-refused : goal.returns-in-Some-2-clause-refused
returns-in-Some-2-clause-refused c = λ h. unstored c.in-Some-2.place c.in_default.ensures.the_first (sym c.if-not-ends.ensures.in_a_return) (unstored_at _ _ _ c.in-Some-2.is c.in_ok-place.ensures.the_first)
