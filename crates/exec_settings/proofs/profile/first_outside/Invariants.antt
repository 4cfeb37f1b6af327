use Rattle.std.proofs.Common.{◌≡◌, map, drop}
use Rattle.std.specs.Prelude.{find}
use Rattle.exec_settings.specs.Profile.{is_outside}
use Rattle.exec_settings.proofs.profile.first_outside.Given as goal

abbrev pub invariant-loop-row : goal.invariant-loop-row
invariant-loop-row l =
    find (is_outside l.unit l.is_relative) (map (λ row. (row.0.now, row.1)) (drop l.row-index l.rows))
    ≡ find (is_outside l.unit l.is_relative) (map (λ row. (row.0.now, row.1)) l.rows)
