-- The settings of a unit by its inputs, and the lines of their refusals.
use Rattle.std.specs.Prelude.{ℕ, List, [], ◌∷◌, ◌++◌, Option, Some, None}
use Rattle.std.specs.Option.{option_map}
use Rattle.exec_settings.specs.host_io.Files.{Files}
use Rattle.exec_settings.specs.AreSettings.{AreSettings}
use Rattle.exec_settings.specs.Refusals.{refusal_of}
use Rattle.exec_settings.specs.declared.service.Settings.{Settings}
use Rattle.unit_inputs.specs.Inputs.{Inputs, input_refusals, inputs_of}
use Rattle.unit_inputs.specs.SettingsRefusals.{settings_line}

-- these are the settings of the unit
abbrev pub AreSettled : Inputs → Settings → Type 0
AreSettled inputs settings = AreSettings inputs.unit inputs.calls inputs.site settings

-- the first setting that is refused
abbrev pub refusals_of : List ℕ → Inputs → List (Option (List ℕ))
refusals_of unit inputs = option_map (settings_line unit) (refusal_of inputs.unit inputs.calls inputs.site) ∷ []

-- the refusals for the inputs, if there are all inputs
abbrev pub refusals_by : (Inputs → List (Option (List ℕ))) → Option Inputs → List (Option (List ℕ))
refusals_by refusals None = []
refusals_by refusals (Some inputs) = refusals inputs

-- the order of refusals of a unit: first its inputs, then its settings
abbrev pub unit_refusals : Files → List ℕ → List (Option (List ℕ))
unit_refusals files unit = input_refusals files unit ++ refusals_by (refusals_of unit) (inputs_of files unit)
