-- What `replay` prints, by the files.
use Rattle.std.specs.Prelude.{◌≡◌, ◌⊎◌, ℕ, IsSome, List, Result, Some, Ok, Err}
use Rattle.asked_service.specs.host_io.Files.{Files}
use Rattle.asked_service.specs.unit_inputs.command_answers.Laws.{FileLaws}
use Rattle.asked_service.specs.unit_inputs.declared.command_answers.exit_status.ExitStatus.{ExitStatus}
use Rattle.asked_service.specs.unit_inputs.declared.command_answers.exit_status.ExitStatus.TheVariants.{Done, LaunchRefused}
use Rattle.asked_service.specs.kernel_model.declared.kernel_calls.call.Call.{Call}
use Rattle.asked_service.specs.bpf_code.declared.machine.Insn.{Insn}
use Rattle.asked_service.specs.kernel_model.World.{World}
use Rattle.asked_service.specs.launcher.Alike.{SameReplies}
use Rattle.asked_service.specs.launcher.Answers.{launch_with}
use Rattle.asked_service.specs.launcher.Launch as ends
use Rattle.asked_service.specs.unit_inputs.Inputs.{Inputs, inputs_of}
use Rattle.asked_service.specs.unit_names.Cutting.{name_of}
use Rattle.asked_service.specs.launcher.declared.error.LaunchError.{LaunchError}
use Rattle.asked_service.specs.launcher.declared.launched.Launched.{Launched as Service}
use Rattle.asked_service.specs.launching.Starting.{StartsAs}
use Rattle.asked_service.specs.launching.OtherPrograms.{AreOthers, HasRoomByBounds}
use Rattle.replay_command.specs.Prepared.{replay_refusals}
use Rattle.asked_service.specs.Scripts.{script_in}
use Rattle.replay_command.specs.Texts.{status_behind, replay_text}

-- With any programs that match the filters, including the launch's own, the launch takes the same number of steps. The replies
-- are the same up to the first call of seccomp(2) that the kernel answers with ENOMEM under only one of the two lists of
-- programs. The kernel gives that answer whenever the programs that the service pushed itself pass the limit. It never gives it
-- if they do not pass it together with the most that the launch's programs may take.
abbrev pub RepliesAlike : (inputs : Inputs) → List Call → (launch : Result Service LaunchError) → StartsAs inputs launch → Type 0
RepliesAlike inputs script (Ok service) starts =
    (programs : List (List ℕ)) (codes : List (List Insn)) → AreOthers starts.settings programs codes
    → ((other : World) × (launch_with inputs.calls inputs.site starts.settings starts.plan programs ≡ ends.Launched other service.steps)
    × SameReplies service.world other script) × HasRoomByBounds starts.settings codes
RepliesAlike inputs script (Err error) starts = Unit {0}

-- the replay of a script. By the inputs of the unit, its settings and the plan of its mounts the unit is launched. Then the script, as
-- the table of calls reads it, is run from the launched world on, and each call is printed with its reply
pub record PrintsReplay (files : Files) (unit path : List ℕ) (status : ExitStatus) (text : List ℕ) : Type 0 where
  pub inputs : Inputs
  pub inputs_are : inputs_of files unit ≡ Some inputs
  pub script : List Call
  pub script_is : script_in files path inputs.calls ≡ Ok script
  pub launch : Result Service LaunchError
  pub starts : StartsAs inputs launch
  pub replies_alike : RepliesAlike inputs script launch starts
  pub is_its_text : text ≡ replay_text inputs.calls script launch
  pub is_its_status : status ≡ status_behind launch

-- the refusals in their order; if the launch is refused, the status is 7
abbrev pub replay_laws : List ℕ → List ℕ → FileLaws
replay_laws unit path = record {
  refusals = λ files. replay_refusals files unit path;
  prints = λ files status text. PrintsReplay files unit path status text;
  may_end = λ status. (status ≡ Done) ⊎ (status ≡ LaunchRefused);
  reads = IsSome (name_of unit);
}
