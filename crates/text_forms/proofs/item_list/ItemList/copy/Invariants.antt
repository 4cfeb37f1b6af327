use Rattle.std.proofs.Common.{◌≡◌, take}
use Rattle.text_forms.proofs.item_list.ItemList.copy.Given as goal

abbrev pub invariant-loop-item : goal.invariant-loop-item
invariant-loop-item g l = l.items.items ≡ take l.item-index l.item-items
