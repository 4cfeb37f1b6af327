-- A launch ends in the same way for all programs of the filters that answer alike.
use Rattle.std.specs.Prelude.{◌≡◌, ℕ, ◌<◌, ◌≤◌, ◌^◌, List}
use Rattle.kernel_laws.specs.bpf_code.declared.machine.Insn.{Insn}
use Rattle.kernel_laws.specs.bpf_code.Stack.{room_of}
use Rattle.kernel_laws.specs.call_table.Facts.{IsWhole}
use Rattle.kernel_laws.specs.call_table.Table as calls
use Rattle.kernel_laws.specs.kern_mounts.Launch.{CanBeMounted}
use Rattle.kernel_laws.specs.kern_mounts.Split.{Table}
use Rattle.kernel_laws.specs.kernel_model.World.{World}
use Rattle.kernel_laws.specs.linux_numbers.Limits.{max_insns_per_path, no_id}
use Rattle.mount_plan.specs.Host.{host_of}
use Rattle.exec_settings.specs.site_table.Table.{Site}
use Rattle.launcher.specs.Alike.{HasWordArchs, AnswerAlike, above}
use Rattle.launcher.specs.Launch.{Wanted, LaunchOutcome, Launched, StepRefused, StepKilled, PrivilegedProgram, launch}
use Rattle.launcher.specs.Launches.{AreRead}

-- both launch after the same number of steps, and the worlds differ in the programs alone; or both are refused alike
abbrev pub EndAlike : List (List Insn) → List (List Insn) → LaunchOutcome → LaunchOutcome → Type 0
EndAlike one other (Launched world count) (Launched world' count') =
    (count ≡ count') × (base : World) × (world ≡ above one base) × (world' ≡ above other base)
EndAlike one other (StepRefused count errno) (StepRefused count' errno') = (count ≡ count') × (errno ≡ errno')
EndAlike one other (StepKilled count) (StepKilled count') = count ≡ count'
EndAlike one other (PrivilegedProgram path) (PrivilegedProgram path') = path ≡ path'
EndAlike one other _ _ = ⊥

-- the programs are read from the bytes, and all of them have room in one stack
pub record AreInstalled (programs : List (List ℕ)) (stack : List (List Insn)) : Type 0 where
  pub read : AreRead programs stack
  pub room : room_of stack ≤ max_insns_per_path

-- launches by programs that answer alike end alike
abbrev pub LaunchesAlike : Type 0
LaunchesAlike = (table : calls.Table) (site : Site) (wanted : Wanted) (plan : Table) (programs : List (List ℕ))
    (one other : List (List Insn))
    → IsWhole table → HasWordArchs table → CanBeMounted (host_of site) plan → wanted.uid < no_id
    → AreInstalled wanted.programs one → AreInstalled programs other → AnswerAlike one other
    → EndAlike one other (launch table site wanted plan) (launch table site (record wanted { programs = programs }) plan)
