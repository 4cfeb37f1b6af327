use Rattle.std.proofs.Common.{◌≡◌, Some, length}
use Rattle.std.specs.Fmt.{option_append}
use Rattle.unit_names.specs.Unescaping.{unescaped}
use Rattle.unit_names.proofs.unescape.push_unescaped.Given as goal

abbrev pub invariant-loop-byte : goal.invariant-loop-byte
invariant-loop-byte l =
    option_append (Some l.bytes.items) (unescaped l.rest) ≡ option_append (Some l.initial.bytes.items) (unescaped l.text)

abbrev pub decreases-loop-byte : goal.decreases-loop-byte
decreases-loop-byte l = length l.rest
