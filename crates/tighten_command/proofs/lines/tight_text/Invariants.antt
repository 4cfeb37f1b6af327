use Rattle.std.proofs.Common.{◌≡◌, take}
use Rattle.std.specs.Prelude.{flat_map}
use Rattle.tighten_command.specs.Lines.{add_line}
use Rattle.tighten_command.proofs.lines.tight_text.Given as goal

abbrev pub invariant-loop-item : goal.invariant-loop-item
invariant-loop-item l = l.text.items ≡ flat_map add_line (take l.item-index l.items)
