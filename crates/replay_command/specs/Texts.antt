-- The text of a replay, and how a run ends after it.
use Rattle.std.specs.Prelude.{ℕ, List, [], ◌∷◌, ◌++◌, length, codes, Result, Ok, Err}
use Rattle.std.specs.Fmt.{decimal}
use Rattle.asked_service.specs.call_table.Table.{Table}
use Rattle.asked_service.specs.unit_inputs.declared.command_answers.exit_status.ExitStatus.{ExitStatus}
use Rattle.asked_service.specs.unit_inputs.declared.command_answers.exit_status.ExitStatus.TheVariants.{Done, LaunchRefused}
use Rattle.asked_service.specs.kernel_model.declared.kernel_calls.call.Call.{Call}
use Rattle.asked_service.specs.launcher.declared.launched.Launched.{Launched as Service}
use Rattle.replay_command.specs.Lines.{run_text}
use Rattle.asked_service.specs.report_text.Launches.{launched_line}
use Rattle.asked_service.specs.launching.Refusals.{launch_line}
use Rattle.asked_service.specs.launching.Told.{told_of}
use Rattle.asked_service.specs.launcher.declared.error.LaunchError.{LaunchError}

-- how many calls there are
abbrev pub count_line : ℕ → List ℕ
count_line count = codes "calls " ++ (decimal count ++ 10 ∷ [])

-- the launch of a service; the calls of the script with the replies of their run from its world on; how many calls there are
abbrev pub service_text : Table → List Call → Service → List ℕ
service_text table script service =
    launched_line (told_of service.world service.steps) ++ (run_text table service.world script ++ count_line (length script))

-- or the line of a launch that is refused
abbrev pub replay_text : Table → List Call → Result Service LaunchError → List ℕ
replay_text table script (Ok service) = service_text table script service
replay_text table script (Err error) = launch_line error

abbrev pub status_behind : Result Service LaunchError → ExitStatus
status_behind (Ok service) = Done
status_behind (Err error) = LaunchRefused
