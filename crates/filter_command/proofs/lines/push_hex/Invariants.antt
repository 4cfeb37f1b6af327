use Rattle.std.proofs.Common.{◌≡◌, ◌++◌, drop}
use Rattle.std.specs.Prelude.{flat_map}
use Rattle.filter_command.specs.Lines.{hex_byte}
use Rattle.filter_command.proofs.lines.push_hex.Given as goal

abbrev pub invariant-loop-byte : goal.invariant-loop-byte
invariant-loop-byte l = l.out.items ++ flat_map hex_byte (drop l.byte-index l.bytes) ≡ l.fn.out.items ++ flat_map hex_byte l.bytes
