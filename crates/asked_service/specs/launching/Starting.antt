-- The launch by which a unit starts, and the refusals before it: of its settings, and then of its paths.
use Rattle.std.specs.Prelude.{ℕ, List, ◌++◌, Option, Result, Ok, Err}
use Rattle.judge.specs.call_table.Table as calls
use Rattle.judge.specs.dropin_merge.declared.resolved.Resolved.{Resolved}
use Rattle.judge.specs.exec_settings.declared.service.Settings.{Settings}
use Rattle.judge.specs.launcher.declared.error.LaunchError.{LaunchError}
use Rattle.judge.specs.launcher.declared.launched.Launched.{Launched as Service}
use Rattle.judge.specs.site_table.Table.{Site}
use Rattle.plan_command.specs.Prints.{refused_paths}
use Rattle.plan_command.specs.unit_inputs.Inputs.{Inputs}
use Rattle.plan_command.specs.unit_inputs.Settled.{refusals_of}
use Rattle.plan_command.specs.unit_inputs.command_answers.CommandErrors.{first_refusal}
use Rattle.asked_service.specs.launching.Launched.{IsLaunchedUnit, IsRefusedUnit}

-- what is read of a unit
abbrev pub given : Resolved → calls.Table → Site → Inputs
given unit calls site = record { unit = unit; calls = calls; site = site }

-- by its settings and the plan of its mounts the unit is launched to a service, or its launch is refused
abbrev pub StartsAs : Inputs → Result Service LaunchError → Type 0
StartsAs inputs (Ok service) = IsLaunchedUnit inputs.unit inputs.calls inputs.site service
StartsAs inputs (Err error) = IsRefusedUnit inputs.unit inputs.calls inputs.site error

-- the settings by which it starts
abbrev pub settings_of : (inputs : Inputs) (launch : Result Service LaunchError) → StartsAs inputs launch → Settings
settings_of inputs (Ok service) is = is.settings
settings_of inputs (Err error) is = is.settings

-- the first setting of the unit that is refused, and then the first path
abbrev pub start_refusals : List ℕ → Inputs → List (Option (List ℕ))
start_refusals unit inputs = refusals_of unit inputs ++ refused_paths unit inputs

-- the first of them
abbrev pub first_start : List ℕ → Inputs → Option (List ℕ)
first_start unit inputs = first_refusal (start_refusals unit inputs)
