use Rattle.std.proofs.Common.{◌≡◌, map, drop}
use Rattle.text_forms.specs.Errnos.{number_beside}
use Rattle.text_forms.proofs.errnos.number_beside.Given as goal

abbrev pub invariant-loop-row : goal.invariant-loop-row
invariant-loop-row l = number_beside (map (λ row. (row.0.now, row.1)) (drop l.row-index l.rows)) l.name
    ≡ number_beside (map (λ row. (row.0.now, row.1)) l.rows) l.name
