use Rattle.std.proofs.Common.{◌≡◌, ◌++◌}
use Rattle.text_forms.proofs.item_list.ItemList.and.Given as goal

abbrev pub invariant-loop-item : goal.invariant-loop-item
invariant-loop-item g l = l.items.items ≡ l.fn.self ++ l.yielded
