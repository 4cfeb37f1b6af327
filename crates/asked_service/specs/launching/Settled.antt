-- A unit that has its settings, and its launch by these.
use Rattle.std.specs.Prelude.{◌≡◌, None, Result}
use Rattle.judge.specs.exec_settings.Refusals.{refusal_of}
use Rattle.judge.specs.launcher.declared.error.LaunchError.{LaunchError}
use Rattle.judge.specs.launcher.declared.launched.Launched.{Launched as Service}
use Rattle.plan_command.specs.unit_inputs.Inputs.{Inputs, inputs_view}
use Rattle.plan_command.specs.unit_inputs.Settled.{AreSettled}
use Rattle.plan_command.specs.unit_inputs.declared.settling.SettledUnit.{SettledUnit}
use Rattle.asked_service.specs.declared.launching.refusal.Refusal.{Refusal}
use Rattle.asked_service.specs.launching.Launched.{LaunchesBy}
use Rattle.asked_service.specs.launching.Starting.{StartsAs, settings_of}

abbrev pub inputs_in : SettledUnit → Inputs
inputs_in one = inputs_view one.inputs

-- nothing is against its settings, which belong to the unit
pub record IsSettled (one : SettledUnit) : Type 0 where
  pub accepted : refusal_of (inputs_in one).unit (inputs_in one).calls (inputs_in one).site ≡ None
  pub settings : AreSettled (inputs_in one) one.settings.value

-- the launch by these settings
abbrev pub LaunchesSettled : SettledUnit → Result Service Refusal → Type 0
LaunchesSettled one result = LaunchesBy (inputs_in one).unit (inputs_in one).calls (inputs_in one).site one.settings.value result

-- by these settings it starts so
abbrev pub StartsBy : SettledUnit → Result Service LaunchError → Type 0
StartsBy one launch = (starts : StartsAs (inputs_in one) launch) × (settings_of (inputs_in one) launch starts ≡ one.settings.value)
