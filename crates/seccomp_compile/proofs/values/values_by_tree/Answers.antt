use Rattle.std.proofs.Common.{◌≡◌, [], sym, subst}
use Rattle.seccomp_compile.specs.Decisions.{decision_of}
use Rattle.seccomp_compile.specs.Runs.{Closes}
use Rattle.seccomp_compile.specs.Rules.{DecidesValues}
use Rattle.seccomp_compile.proofs.Rising.{Rises, rises, rises_before, no_members, if_ok}
use Rattle.seccomp_compile.proofs.CaseTrees.{Valued, valued_none, valued_more, values_closed}
use Rattle.seccomp_compile.proofs.values.values_by_tree.Goals as goal

pub loop-value-init : goal.loop-value-init
loop-value-init c = record {
  valued =
      subst (λ left. Valued c.args.cases.now c.args.rest left c.new-runs.result.items) (sym c.as_slice-left.ensures.value)
      (subst (λ runs. Valued c.args.cases.now c.args.rest c.in_ok-values.values.items runs) (sym c.new-runs.ensures.items)
      (valued_none c.args.cases.now c.args.rest c.in_ok-values.values.items c.in_ok-values.ensures.members c.in_ok-values.ensures.few));
  rises = subst Rises (sym c.as_slice-left.ensures.value) (rises c.in_ok-values.values.items c.in_ok-values.ensures.increasing);
}

pub loop-value-preserved : goal.loop-value-preserved
loop-value-preserved c = record {
  valued = valued_more c.args.cases.now c.args.rest c.in-Some.value.now c.action_of_value-action.result c.loop-value.left.now
      c.in-Some.others.now c.loop-value.runs.items c.add_number.new.runs.items
      c.in_ok-add_number.ensures.there c.in-Some.ensures.cases.0 c.loop-value.invariant.rises c.loop-value.invariant.valued
      c.in_ok-add_number.ensures.adds c.action_of_value-action.ensures;
  rises = rises_before c.in-Some.others.now _ (subst Rises c.in-Some.ensures.cases.0 c.loop-value.invariant.rises);
}

pub returns : goal.returns
returns c =
    let none : c.loop-value.left.now ≡ [] = no_members c.loop-value.left.now c.in_default.ensures.cases in
    if_ok (λ tree. Closes c.loop-value.runs.items c.args.rest (decision_of tree))
    (λ tree. DecidesValues c.args.cases.now c.args.rest (decision_of tree)) c.close.result
    (λ tree closed. values_closed c.args.cases.now c.args.rest c.loop-value.runs.items (decision_of tree) c.requires
    (subst (λ left. Valued c.args.cases.now c.args.rest left c.loop-value.runs.items) none c.loop-value.invariant.valued) closed)
    c.close.ensures.closes
