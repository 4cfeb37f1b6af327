use Rattle.std.proofs.Common.{◌≡◌, false, drop}
use Rattle.abs_path.specs.Plain.{is_plain}
use Rattle.abs_path.proofs.path.read.is_plain.Given as goal

abbrev pub invariant-loop-byte : goal.invariant-loop-byte
invariant-loop-byte l = is_plain l.behind (drop l.byte-index l.byte-items) ≡ is_plain false l.text
