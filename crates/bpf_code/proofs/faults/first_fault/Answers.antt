use Rattle.std.proofs.Common.{refl, length, subst, arith, ◌≡◌}
use Rattle.bpf_code.proofs.FirstFaults.{FineBefore, fine_before_none, read_fine, read_faulty, fine_before_all}
use Rattle.bpf_code.proofs.faults.first_fault.Goals as goal

pub loop-place-init : goal.loop-place-init
loop-place-init c = fine_before_none c.args.insns.now

pub returns-in-Some : goal.returns-in-Some
returns-in-Some c = record { the_first = read_faulty _ _ _ _ _ c.loop-place-test.true refl c.in-Some.ensures c.loop-place.invariant }

pub loop-place-preserved : goal.loop-place-preserved
loop-place-preserved c = read_fine c.args.insns.now c.loop-place.place _ _ c.loop-place-test.true refl c.in_default.ensures
    c.loop-place.invariant

pub returns : goal.returns
returns c =
    let all : c.loop-place.place ≡ length c.args.insns.now = omega arith in
    record { the_first = fine_before_all c.args.insns.now (subst (FineBefore c.args.insns.now) all c.loop-place.invariant) }
