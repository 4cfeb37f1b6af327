-- Launches by several lists of programs, of which one answers each call as one of two others.
use Rattle.std.specs.Prelude.{◌≡◌, ℕ, ◌<◌, List, length}
use Rattle.asked_service.specs.bpf_code.declared.machine.Insn.{Insn}
use Rattle.asked_service.specs.call_table.Facts.{IsWhole}
use Rattle.asked_service.specs.call_table.Table as calls
use Rattle.asked_service.specs.kern_mounts.Launch.{CanBeMounted}
use Rattle.asked_service.specs.kern_mounts.Split.{Table}
use Rattle.asked_service.specs.kernel_model.World.{World}
use Rattle.asked_service.specs.linux_numbers.Limits.{no_id}
use Rattle.asked_service.specs.mount_plan.Host.{host_of}
use Rattle.asked_service.specs.site_table.Table.{Site}
use Rattle.asked_service.specs.launcher.Alike.{HasWordArchs, above}
use Rattle.asked_service.specs.launcher.Launch.{Wanted, LaunchOutcome, Launched, launch}
use Rattle.asked_service.specs.launcher.LaunchesAlike.{AreInstalled}
use Rattle.derive_command.specs.trace_profile.allow_laws.Either.{AnswersAsEither}

-- the launch with the bytes of these programs
abbrev pub launch_by : calls.Table → Site → Wanted → Table → List (List ℕ) → LaunchOutcome
launch_by table site wanted plan programs = launch table site (record wanted { programs = programs }) plan

-- bytes of programs, which have room in one stack, and the world that the launch by them ends in
pub record LaunchesBy (table : calls.Table) (site : Site) (wanted : Wanted) (plan : Table) (programs : List (List ℕ)) (stack : List (List Insn)) (last : World) : Type 0 where
  pub installed : AreInstalled programs stack
  pub steps : ℕ
  pub launched : launch_by table site wanted plan programs ≡ Launched last steps

-- the launch ends well too, and the three worlds differ in these programs alone
pub record LaunchAsEither (table : calls.Table) (site : Site) (wanted : Wanted) (plan : Table) (programs : List (List ℕ)) (both one other : List (List Insn)) (last last' : World) : Type 0 where
  pub base : World
  pub as_one : last ≡ above one base
  pub as_other : last' ≡ above other base
  pub steps : ℕ
  pub launched : launch_by table site wanted plan programs ≡ Launched (above both base) steps

abbrev pub EitherLaunches : Type 0
EitherLaunches = (table : calls.Table) (site : Site) (wanted : Wanted) (plan : Table) (programs of_one of_other : List (List ℕ))
    (both one other : List (List Insn)) (last last' : World)
    → IsWhole table → HasWordArchs table → CanBeMounted (host_of site) plan → wanted.uid < no_id
    → AreInstalled programs both → length both ≡ length one → length both ≡ length other → AnswersAsEither both one other
    → LaunchesBy table site wanted plan of_one one last → LaunchesBy table site wanted plan of_other other last'
    → LaunchAsEither table site wanted plan programs both one other last last'
