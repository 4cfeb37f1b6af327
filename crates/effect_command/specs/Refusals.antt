-- What `effect` refuses, in the order of refusals.
use Rattle.std.specs.Prelude.{ℕ, List, [], ◌∷◌, ◌++◌, Option, Some, None, map, option_map, Result, Ok, Err}
use Rattle.asked_service.specs.host_io.Files.{Files}
use Rattle.asked_service.specs.launching.Starting.{first_start}
use Rattle.asked_service.specs.unit_grammar.declared.unit.UnitText.{UnitText}
use Rattle.asked_service.specs.unit_inputs.Inputs.{Inputs, input_refusals, inputs_of}
use Rattle.asked_service.specs.unit_inputs.Settled.{refusals_by}
use Rattle.effect_command.specs.Lines.{with_line}
use Rattle.effect_command.specs.Longer.{dropin_in, with_dropin}

-- the refusals of the unit, and of the unit with the drop-in after the word `with`
abbrev pub refusals_behind_dropin : List ℕ → Inputs → UnitText → List (Option (List ℕ))
refusals_behind_dropin unit inputs more =
    first_start unit inputs ∷ option_map with_line (first_start unit (with_dropin inputs more)) ∷ []

-- the refusal of the drop-in, or the refusals after it
abbrev pub refusals_by_dropin : List ℕ → Inputs → Result UnitText (List ℕ) → List (Option (List ℕ))
refusals_by_dropin unit inputs (Ok more) = refusals_behind_dropin unit inputs more
refusals_by_dropin unit inputs (Err line) = Some line ∷ []

abbrev pub refusals_behind : Files → List ℕ → List ℕ → Inputs → List (Option (List ℕ))
refusals_behind files unit path inputs = refusals_by_dropin unit inputs (dropin_in files path)

-- the order of refusals: the inputs, the drop-in, the settings and paths of the unit, and the settings and paths of the unit
-- with the drop-in
abbrev pub effect_refusals : Files → List ℕ → List ℕ → List (Option (List ℕ))
effect_refusals files unit path = input_refusals files unit ++ refusals_by (refusals_behind files unit path) (inputs_of files unit)
