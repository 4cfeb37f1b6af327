use Rattle.std.proofs.Common.{take}
use Rattle.why_command.specs.deciding_lines.unit_lines.Marks.{AreMarked}
use Rattle.why_command.proofs.deciding_lines.unit_lines.place_set.PlaceSet.of.Given as goal

abbrev pub invariant-loop-place : goal.invariant-loop-place
invariant-loop-place l = AreMarked (take l.place-index l.places) l.rows.items l.has_all
