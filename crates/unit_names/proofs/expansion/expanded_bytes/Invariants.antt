use Rattle.std.proofs.Common.{◌≡◌, ◌≤◌, Some, length}
use Rattle.std.specs.Fmt.{option_append}
use Rattle.unit_names.specs.Expansion.{expanded_bytes, longest_value}
use Rattle.unit_names.proofs.expansion.expanded_bytes.Given as goal

abbrev pub invariant-loop-first : goal.invariant-loop-first
invariant-loop-first l =
    (option_append (Some l.bytes.items) (expanded_bytes l.systemd l.name l.rest) ≡ expanded_bytes l.systemd l.name l.value)
    × (length l.bytes.items ≤ longest_value)

abbrev pub decreases-loop-first : goal.decreases-loop-first
decreases-loop-first l = length l.rest
