use Rattle.std.proofs.Common.{sym, ◌∙◌, subst, ap, length, arith}
use Rattle.call_rules.specs.bpf_code.Reading.{IsProgram}
use Rattle.seccomp_compile.specs.Compiled.{Decides, DecidesWithin, longest_path}
use Rattle.seccomp_compile.specs.Decisions.{decision_of}
use Rattle.seccomp_compile.specs.Placed.{Placed}
use Rattle.seccomp_compile.proofs.Calls.{most_insns-le}
use Rattle.seccomp_compile.proofs.Whole.{placed_program, placed_decides, placed_within}
use Rattle.seccomp_compile.proofs.compiler.compile.Goals as goal

pub returns-in_err-tree-clause-is_never_too_long : goal.returns-in_err-tree-clause-is_never_too_long
returns-in_err-tree-clause-is_never_too_long c = most_insns-le c.args.rules.now c.requires

pub place-requires-clause-short : goal.place-requires-clause-short
place-requires-clause-short c =
    let none = ap length c.new-code.ensures.items in
    omega (arith, none, c.in_ok-tree.ensures.decides_the_rules.most, most_insns-le c.args.rules.now c.requires)

pub returns-in_err-place-clause-is_never_too_long : goal.returns-in_err-place-clause-is_never_too_long
returns-in_err-place-clause-is_never_too_long c = most_insns-le c.args.rules.now c.requires

pub made-requires : goal.made-requires
made-requires c =
    let decision = decision_of c.in_ok-tree.tree in
    let placed = subst (λ before. Placed decision before c.place.new.code.items c.in_ok-place.field-0) c.new-code.ensures.items c.in_ok-place.ensures.placed in
    subst IsProgram (sym c.into_vec.ensures.items)
    (placed_program decision c.place.new.code.items c.in_ok-place.field-0
    (omega (arith, c.in_ok-tree.ensures.decides_the_rules.most, most_insns-le c.args.rules.now c.requires)) c.in_ok-place.ensures.fit
    placed)

pub returns-clause-decides_every_call : goal.returns-clause-decides_every_call
returns-clause-decides_every_call c =
    let decision = decision_of c.in_ok-tree.tree in
    let placed = subst (λ before. Placed decision before c.place.new.code.items c.in_ok-place.field-0) c.new-code.ensures.items c.in_ok-place.ensures.placed in
    subst (λ code. Decides code c.args.rules.now) (sym (c.made.ensures.of_the_instructions ∙ c.into_vec.ensures.items))
    (placed_decides c.args.rules.now decision c.place.new.code.items c.in_ok-place.field-0 c.in_ok-tree.ensures.decides_the_rules.tree
    placed c.in_ok-tree.ensures.decides_the_rules)

pub returns-clause-is_never_too_long : goal.returns-clause-is_never_too_long
returns-clause-is_never_too_long c = most_insns-le c.args.rules.now c.requires

pub returns-clause-within_the_path_length : goal.returns-clause-within_the_path_length
returns-clause-within_the_path_length c = λ short.
    let decision = decision_of c.in_ok-tree.tree in
    let placed = subst (λ before. Placed decision before c.place.new.code.items c.in_ok-place.field-0) c.new-code.ensures.items c.in_ok-place.ensures.placed in
    subst (λ code. DecidesWithin longest_path code c.args.rules.now) (sym (c.made.ensures.of_the_instructions ∙ c.into_vec.ensures.items))
    (placed_within c.args.rules.now decision c.place.new.code.items c.in_ok-place.field-0 c.in_ok-tree.ensures.decides_the_rules.tree
    placed c.in_ok-tree.ensures.decides_the_rules short)
