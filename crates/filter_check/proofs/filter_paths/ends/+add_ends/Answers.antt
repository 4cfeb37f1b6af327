use Rattle.std.proofs.Common.{subst, length, arith, ◌≤◌}
use Rattle.seccomp_compile.specs.bpf_code.Meaning.{start_regs}
use Rattle.filter_check.specs.filter_paths.Covered.{StepsTo, AddsEnds}
use Rattle.filter_check.proofs.Behind.{adds_end, adds_none, adds_more, adds_first, adds_two, ok_more}
use Rattle.filter_check.proofs.filter_paths.ends.+add_ends.Goals as goal

pub returns-then-len-most-clause-adds : goal.returns-then-len-most-clause-adds
returns-then-len-most-clause-adds t c =
    let steps = subst (StepsTo c.args.insns.now c.args.state) c.in-End.is c.in_ok-end.ensures.steps in
    let full : c.args.most ≤ length c.args.found.now.items = omega (arith, c.len.ensures, c.if-len-most.true) in
    adds_none c.args.insns.now c.args.state c.args.most c.args.found.now.items c.args.found.now.items c.in-End.end steps.0 steps.1 steps.2
    full

pub returns-then-not-branch-clause-adds : goal.returns-then-not-branch-clause-adds
returns-then-not-branch-clause-adds t c =
    let steps = subst (StepsTo c.args.insns.now c.args.state) c.in-Two.is c.in_ok-end.ensures.steps in
    adds_first c.args.insns.now c.args.state c.in-Two.first c.args.most c.args.found.now.items c.add_ends-in-Two.new.found.items steps.0
    (subst (AddsEnds c.args.insns.now c.in-Two.first c.args.most c.args.found.now.items c.add_ends-in-Two.new.found.items) c.if-not-branch.true c.in_ok-add_ends-in-Two.ensures.adds)

pub returns-in_ok-push-in-End-clause-adds : goal.returns-in_ok-push-in-End-clause-adds
returns-in_ok-push-in-End-clause-adds t c =
    let steps = subst (StepsTo c.args.insns.now c.args.state) c.in-End.is c.in_ok-end.ensures.steps in
    adds_end c.args.insns.now c.args.state c.args.most c.args.found.now.items c.push.new.self.items c.in-End.end steps.0 steps.1 steps.2 c.in_ok-push-in-End.ensures.items

pub returns-in-One-clause-adds : goal.returns-in-One-clause-adds
returns-in-One-clause-adds t c =
    let steps = subst (StepsTo c.args.insns.now c.args.state) c.in-One.is c.in_ok-end.ensures.steps in
    ok_more c.add_ends.result _ _
    (λ all h. adds_more c.args.insns.now c.args.state c.in-One.state c.args.most c.args.found.now.items c.add_ends.new.found.items all
    steps.0 steps.1 h) c.add_ends.ensures.adds

pub returns-else-not-branch-clause-adds : goal.returns-else-not-branch-clause-adds
returns-else-not-branch-clause-adds t c =
    let steps = subst (StepsTo c.args.insns.now c.args.state) c.in-Two.is c.in_ok-end.ensures.steps in
    let first = subst (AddsEnds c.args.insns.now c.in-Two.first c.args.most c.args.found.now.items c.add_ends-in-Two.new.found.items) c.if-not-branch.false c.in_ok-add_ends-in-Two.ensures.adds in
    ok_more c.add_ends-in-Two-2.result _ _
    (λ all h. adds_two c.args.insns.now c.args.state c.in-Two.first c.in-Two.second start_regs c.args.most c.args.found.now.items c.add_ends-in-Two.new.found.items c.add_ends-in-Two-2.new.found.items all steps.0 steps.1 steps.2 steps.3 first h)
    c.add_ends-in-Two-2.ensures.adds
