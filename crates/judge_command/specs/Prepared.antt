-- What a report starts with.
use Rattle.std.specs.Prelude.{◌≡◌, ℕ, List, Some}
use Rattle.asked_service.specs.dropin_merge.declared.resolved.Resolved.{Resolved}
use Rattle.asked_service.specs.exec_settings.declared.service.Settings.{Settings}
use Rattle.asked_service.specs.host_io.Files.{Files}
use Rattle.asked_service.specs.launching.Settled.{inputs_in}
use Rattle.asked_service.specs.unit_inputs.Inputs.{inputs_of}
use Rattle.asked_service.specs.unit_inputs.declared.settling.SettledUnit.{SettledUnit}

-- the unit and its settings
abbrev pub unit_in : SettledUnit → Resolved
unit_in one = (inputs_in one).unit

abbrev pub settings_in : SettledUnit → Settings
settings_in one = one.settings.value

-- its inputs are those of the files
abbrev pub IsPrepared : Files → List ℕ → SettledUnit → Type 0
IsPrepared files unit one = inputs_of files unit ≡ Some (inputs_in one)
