use Rattle.std.proofs.Common.{◌≡◌, ℕ, List, drop, map}
use Rattle.std.specs.BTreeMap.{get_by_text}
use Rattle.std.specs.Option.{option_or}
use Rattle.std.specs.String.{string_bytes}
use Rattle.score_command.specs.fleet_command.fleet_names.Steps.{unit_among}
use Rattle.score_command.proofs.fleet_command.fleet_names.collecting.take_names.Given as goal

abbrev pub invariant-loop-name : goal.invariant-loop-name
invariant-loop-name l =
    (q : List ℕ) → option_or (unit_among (map string_bytes (drop l.name-index l.names)) q) (get_by_text l.units q)
    ≡ option_or (unit_among (map string_bytes l.names) q) (get_by_text l.fn.units q)
