use Rattle.std.proofs.Common.{◌≡◌, filter}
use Rattle.std.specs.List.{range_with_len}
use Rattle.tighten_command.specs.tightening.Items.{has}
use Rattle.tighten_command.proofs.tightening.items.in_order.Given as goal

abbrev pub invariant-loop-place : goal.invariant-loop-place
invariant-loop-place l = l.items.items ≡ filter (has l.set) (range_with_len 1 l.place)
