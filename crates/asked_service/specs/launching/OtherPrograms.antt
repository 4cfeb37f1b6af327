-- A launch by other programs that match the filters of the same settings ends as well. The answers to the service's calls depend on the
-- programs at one place alone: where seccomp(2) answers that there is no room (ENOMEM).
use Rattle.std.specs.Prelude.{◌≡◌, ℕ, ◌+◌, ◌<◌, ◌≤◌, List, length}
use Rattle.judge.specs.bpf_code.declared.machine.Insn.{Insn}
use Rattle.judge.specs.bpf_code.Stack.{room_of}
use Rattle.judge.specs.call_table.Table as calls
use Rattle.judge.specs.exec_settings.declared.service.Settings.{Settings}
use Rattle.report_text.specs.filter_settings.filter_rules.Costs.{most_room}
use Rattle.judge.specs.kern_mounts.Split.{Table}
use Rattle.judge.specs.kernel_model.kernel_calls.Calls.{AreCalls}
use Rattle.judge.specs.kernel_model.declared.kernel_calls.call.Call.{Call}
use Rattle.judge.specs.kernel_model.Step.{step}
use Rattle.judge.specs.kernel_model.World.{World}
use Rattle.judge.specs.kernel_model.declared.process.Process.{Process}
use Rattle.judge.specs.kernel_model.declared.reply.Reply.TheVariants.{Done, Refused}
use Rattle.judge.specs.launcher.Alike.{AlikeRun, Pushes, SameReplies, above}
use Rattle.judge.specs.launcher.Answers.{codes_of, launch_with}
use Rattle.judge.specs.launcher.Launch.{Launched}
use Rattle.judge.specs.launcher.Launches.{AreRead}
use Rattle.judge.specs.launcher.Matching.{AreMatching}
use Rattle.judge.specs.launcher.declared.launched.Launched.{Launched as Service}
use Rattle.judge.specs.linux_numbers.Errnos.{enomem}
use Rattle.judge.specs.linux_numbers.Limits.{max_insns_per_path}
use Rattle.judge.specs.site_table.Table.{Site}

-- programs that match the filters of the settings, one for each in their order, and the bytes that seccomp(2) reads them from
pub record AreOthers (settings : Settings) (programs : List (List ℕ)) (codes : List (List Insn)) : Type 0 where
  pub matching : AreMatching settings.filters.items codes
  pub read : AreRead programs codes

-- seccomp(2), MAX_INSNS_PER_PATH: when a program that a process may push has room. It has none if the programs that the service pushed
-- itself pass the limit with it, each earlier one counted with 4 more. It has room if they do not pass the limit together with the most
-- that the programs of the launch may take
pub record HasRoomByBounds (settings : Settings) (codes : List (List Insn)) : Type 0 where
  pub full : (world : World) (call : Call) (process : Process) (code : List Insn) → Pushes codes world call process code
      → max_insns_per_path < room_of process.stack + length code → (step (above codes world) call).0 ≡ Refused enomem
  pub room : (world : World) (call : Call) (process : Process) (code : List Insn) → Pushes codes world call process code
      → most_room settings.filters.items + room_of process.stack + length code ≤ max_insns_per_path
      → (step (above codes world) call).0 ≡ Done 0

-- the launch by them takes the same number of steps, and its world differs in the programs of the launch alone. From both worlds on every
-- list of calls is answered alike and leaves worlds that differ in these programs alone. That ends at the first call of seccomp(2) whose
-- program has room in one of the two alone
pub record GoesOnAlike (table : calls.Table) (site : Site) (settings : Settings) (plan : Table) (service : Service) (programs : List (List ℕ)) (codes : List (List Insn)) : Type 0 where
  pub base : World
  pub own : service.world ≡ above (codes_of service.filters) base
  pub other : launch_with table site settings plan programs ≡ Launched (above codes base) service.steps
  pub same_replies : (calls : List Call) → AreCalls calls → SameReplies service.world (above codes base) calls
  pub same_worlds : (calls : List Call) → AreCalls calls → AlikeRun (codes_of service.filters) codes base calls

abbrev pub WhicheverPrograms : calls.Table → Site → Settings → Table → Service → Type 0
WhicheverPrograms table site settings plan service =
    (programs : List (List ℕ)) (codes : List (List Insn)) → AreOthers settings programs codes
    → GoesOnAlike table site settings plan service programs codes × HasRoomByBounds settings codes
