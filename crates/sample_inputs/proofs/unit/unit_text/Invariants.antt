use Rattle.std.proofs.Common.{◌≡◌, string_bytes}
use Rattle.sample_inputs.proofs.UnitLines.{text_so_far}
use Rattle.sample_inputs.proofs.unit.unit_text.Given as goal

abbrev pub invariant-loop-folder : goal.invariant-loop-folder
invariant-loop-folder l = string_bytes l.text ≡ text_so_far l.n l.folder
