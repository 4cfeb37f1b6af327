use Rattle.std.proofs.Common.{◌≡◌, map, drop}
use Rattle.std.specs.Prelude.{find}
use Rattle.call_table.specs.Reading.{lacks}
use Rattle.call_table.proofs.table.first_missing.Given as goal

abbrev pub invariant-loop-name : goal.invariant-loop-name
invariant-loop-name l = find (lacks l.calls) (map (λ name. name.now) (drop l.name-index l.names))
    ≡ find (lacks l.calls) (map (λ name. name.now) l.names)
