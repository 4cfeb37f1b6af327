use Rattle.std.proofs.Common.{◌≡◌, ◌∷◌, ◌++◌, [], take}
use Rattle.std.specs.Prelude.{codes, flat_map}
use Rattle.tighten_command.specs.tightening.Items.{line_of}
use Rattle.tighten_command.proofs.tightening.items.drop_in.Given as goal

abbrev pub invariant-loop-item : goal.invariant-loop-item
invariant-loop-item l = l.text.items ≡ codes "[Service]\n" ++ flat_map (λ item. line_of item ++ 10 ∷ []) (take l.item-index l.items)
