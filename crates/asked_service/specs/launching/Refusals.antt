-- The line of each refusal, and what a command answers to it.
use Rattle.std.specs.Prelude.{◌≡◌, ℕ, List, [], Result, Ok, Err}
use Rattle.judge.specs.launcher.declared.error.LaunchError.{LaunchError}
use Rattle.judge.specs.launcher.declared.error.LaunchError.TheVariants as error
use Rattle.report_text.specs.Launches.{killed_line, privileged_line, refused_line}
use Rattle.plan_command.specs.Refusals.{error_line}
use Rattle.plan_command.specs.unit_inputs.SettingsRefusals.{settings_line}
use Rattle.plan_command.specs.unit_inputs.command_answers.ReadyTexts.{IsReadyWith}
use Rattle.plan_command.specs.unit_inputs.declared.command_answers.error.CommandError.{CommandError}
use Rattle.plan_command.specs.unit_inputs.declared.command_answers.error.CommandError.TheVariants as stop
use Rattle.plan_command.specs.unit_inputs.declared.command_answers.exit_status.ExitStatus.{ExitStatus}
use Rattle.plan_command.specs.unit_inputs.declared.command_answers.exit_status.ExitStatus.TheVariants.{LaunchRefused}
use Rattle.plan_command.specs.unit_inputs.declared.command_answers.ready_text.ReadyText.{ReadyText}
use Rattle.asked_service.specs.declared.launching.refusal.Refusal.{Refusal}
use Rattle.asked_service.specs.declared.launching.refusal.Refusal.TheVariants.{Settings as InSettings, Plan, Launch, Memory}

-- a launch that is refused; if memory runs out in it, there is no line
abbrev pub launch_line : LaunchError → List ℕ
launch_line (error.PrivilegedProgram program) = privileged_line program
launch_line (error.Refused step errno) = refused_line step errno
launch_line (error.Killed step) = killed_line step
launch_line error.Memory = []

-- the setting, the path or the launch of the unit of this name; if memory ran out, there is no line
abbrev pub refusal_line : List ℕ → Refusal → List ℕ
refusal_line name (InSettings error) = settings_line name error
refusal_line name (Plan error) = error_line name error
refusal_line name (Launch error) = launch_line error
refusal_line name Memory = []

-- a refusal with this line
abbrev pub StopsWith : {T : Type 0} → List ℕ → Result T CommandError → Type 0
StopsWith line (Ok value) = ⊥
StopsWith line (Err (stop.Refused told)) = told.items ≡ line
StopsWith line (Err stop.ReadFault) = ⊥
StopsWith line (Err stop.Memory) = Unit {0}

-- a setting or a path stops a command with its line; a launch that is refused does not. An answer that memory ran out has no line
abbrev pub StopsUnlessLaunch : List ℕ → Refusal → Result LaunchError CommandError → Type 0
StopsUnlessLaunch name (InSettings error) result = StopsWith (settings_line name error) result
StopsUnlessLaunch name (Plan error) result = StopsWith (error_line name error) result
StopsUnlessLaunch name (Launch error) result = result ≡ Ok error
StopsUnlessLaunch name Memory result = result ≡ Err stop.Memory

-- the text of a launch that is refused
abbrev pub TellsLaunch : LaunchError → ExitStatus → List ℕ → Type 0
TellsLaunch error status text = (status ≡ LaunchRefused) × (text ≡ launch_line error)

-- the same, with the text of the launch
abbrev pub TellsRefusal : List ℕ → Refusal → Result ReadyText CommandError → Type 0
TellsRefusal name (InSettings error) result = StopsWith (settings_line name error) result
TellsRefusal name (Plan error) result = StopsWith (error_line name error) result
TellsRefusal name (Launch error) result = IsReadyWith (TellsLaunch error) result
TellsRefusal name Memory result = result ≡ Err stop.Memory
