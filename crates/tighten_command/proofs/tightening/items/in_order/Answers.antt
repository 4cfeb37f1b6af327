use Rattle.std.proofs.Common.{◌≤◌, ◌+◌, ◌++◌, ◌∷◌, [], ℕ, List, ap, cond, subst, sym, ◌∙◌}
use Rattle.std.specs.List.{All}
use Rattle.tighten_command.specs.tightening.Items.{has}
use Rattle.tighten_command.proofs.Sets.{range_more, some_within}
use Rattle.tighten_command.proofs.tightening.items.in_order.Goals as goal

pub loop-place-preserved : goal.loop-place-preserved
loop-place-preserved c =
    c.in_ok-push_if.ensures
    ∙ ap (λ (these : List ℕ). these ++ cond (has c.args.set.now (c.loop-place.place + 1)) ((c.loop-place.place + 1) ∷ []) [])
    c.loop-place.invariant
    ∙ sym (range_more (has c.args.set.now) c.loop-place.place)

pub returns-clause-are_items : goal.returns-clause-are_items
returns-clause-are_items c = subst (All (λ item. (1 ≤ item) × (item ≤ 17))) (sym c.loop-place.invariant)
    (some_within (has c.args.set.now) c.loop-place.place c.loop-place.auto.place-end)
