use Rattle.std.proofs.Common.{◌≡◌, Some, map, take}
use Rattle.kernel_model.specs.call_table.Numbers.{number_of}
use Rattle.script_text.specs.Numbers.{all_read}
use Rattle.script_text.proofs.payloads.read_each.Given as goal

abbrev pub invariant-loop-piece : goal.invariant-loop-piece
invariant-loop-piece l = all_read number_of (map (λ piece. piece.now) (take l.piece-index l.pieces)) ≡ Some l.ids.items
