use Rattle.std.proofs.Common.{◌≡◌, ◌++◌, take}
use Rattle.why_command.specs.deciding_lines.Bare.{is_identity, places_of}
use Rattle.why_command.proofs.deciding_lines.bare.push_identities.Given as goal

abbrev pub invariant-loop-line : goal.invariant-loop-line
invariant-loop-line l = l.places.items ≡ l.fn.places.items ++ places_of is_identity (take l.line-index l.lines)
