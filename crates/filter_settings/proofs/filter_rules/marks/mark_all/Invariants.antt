use Rattle.std.proofs.Common.{take}
use Rattle.std.specs.Prelude.{◌==◌}
use Rattle.std.specs.List.{list_any}
use Rattle.filter_settings.specs.filter_rules.Marks.{SaidOf}
use Rattle.filter_settings.proofs.filter_rules.marks.mark_all.Given as goal

abbrev pub invariant-loop-place : goal.invariant-loop-place
invariant-loop-place l = SaidOf (λ at. list_any (λ place. place == at) (take l.place-index l.places)) l.what l.initial.marks l.marks
