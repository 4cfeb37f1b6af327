use Rattle.std.proofs.Common.{◌≡◌, ◌<◌, ◌≤◌, refl, ap, ◌∙◌, subst, length, []}
use Rattle.seccomp_compile.specs.Code.{whole_word}
use Rattle.seccomp_compile.specs.Decisions.{decision_of, ends, looks, LooksInside}
use Rattle.seccomp_compile.specs.Rules.{cases_onto, AreValuesOf, DecidesValues, DecidesCases}
use Rattle.seccomp_compile.proofs.Rising.{if_ok, if_both}
use Rattle.seccomp_compile.proofs.CaseTrees.{call_by_values, call_in_turn}
use Rattle.seccomp_compile.proofs.decisions.rule_tree.Goals as goal

pub returns-in_ok-values-in-Some : goal.returns-in_ok-values-in-Some
returns-in_ok-values-in-Some c =
    let are = subst (λ cases. (c.in-Some.arg ≤ 5) × (0 < length cases) × AreValuesOf c.in-Some.arg cases) c.list-cases.ensures.all_in_order c.in-Some.ensures.values in
    let values = decision_of c.in_ok-values-in-Some.values in
    if_ok (λ tree. decision_of tree ≡ looks c.arg_offset.result whole_word values)
    (λ tree. DecidesCases c.args.call.now (decision_of tree)) c.look_at.result
    (λ tree e. call_by_values c.args.call.now c.in-Some.arg values (decision_of tree) c.requires are.0 are.1 are.2
    (subst (λ cases. DecidesValues cases c.args.call.now.rest values) c.list-cases.ensures.all_in_order c.in_ok-values-in-Some.ensures.decides_the_values)
    (e ∙ ap (λ offset. looks offset whole_word values) c.arg_offset.ensures.of_the_argument))
    c.look_at.ensures

pub returns-in-None : goal.returns-in-None
returns-in-None c =
    if_both (λ tree. decision_of tree ≡ cases_onto c.list-cases.result.now (ends c.args.call.now.rest))
    (λ tree. LooksInside (decision_of tree)) (λ tree. DecidesCases c.args.call.now (decision_of tree)) c.cases_tree.result
    (λ tree e inside. call_in_turn c.args.call.now (decision_of tree) c.requires
    (e ∙ ap (λ cases. cases_onto cases (ends c.args.call.now.rest)) c.list-cases.ensures.all_in_order) inside
    (subst (λ cases. (arg : _) → AreValuesOf arg cases → cases ≡ []) c.list-cases.ensures.all_in_order (c.in-None.ensures.others refl)))
    c.cases_tree.ensures.cases c.cases_tree.ensures.looks
