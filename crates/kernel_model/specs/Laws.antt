-- Laws of all worlds, all calls and all runs.
use Rattle.std.specs.Prelude.{◌≡◌, ℕ, ◌+◌, ◌++◌, ◌==◌, not, true, false, List, length, Some}
use Rattle.std.specs.List.{AllByRecursion}
use Rattle.bpf_code.specs.declared.machine.Insn.{Insn}
use Rattle.kernel_model.specs.kern_files.Bits.{has_some}
use Rattle.kern_mounts.specs.Copying.{copied}
use Rattle.kernel_model.specs.declared.kernel_calls.call.Call.{Call}
use Rattle.kernel_model.specs.kernel_calls.Operation.{Does, Fork, Clone, Unshare, asked_of}
use Rattle.kernel_model.specs.declared.reply.Reply.{Reply}
use Rattle.kernel_model.specs.declared.reply.Reply.TheVariants.{Done, Refused, Killed}
use Rattle.kernel_model.specs.declared.process.Process.{Process}
use Rattle.kernel_model.specs.Effects.{newns, newuser}
use Rattle.kernel_model.specs.World.{World, living_of, process_of, mounts_of, with_process, ended, owner_of}
use Rattle.kernel_model.specs.Step.{step}
use Rattle.kernel_model.specs.StepCases.{StepCase}
use Rattle.kernel_model.specs.Runs.{run}
use Rattle.kernel_model.specs.Worlds.{IsKernel}

-- each step is one of the cases
abbrev pub StepsByCases : Type 0
StepsByCases = (world : World) (call : Call) → StepCase world call (step world call)

-- each case gives the result of the step
abbrev pub CasesAreSteps : Type 0
CasesAreSteps = (world : World) (call : Call) (out : Reply × World) → StepCase world call out → out ≡ step world call

-- a refused call changes nothing
abbrev pub RefusedChangesNothing : Type 0
RefusedChangesNothing = (world : World) (call : Call) (errno : ℕ) → (step world call).0 ≡ Refused errno → (step world call).1 ≡ world

-- a call for which the caller is killed ends the caller and changes nothing else
abbrev pub KilledEndsTheCaller : Type 0
KilledEndsTheCaller = (world : World) (call : Call) → (step world call).0 ≡ Killed
    → (process : Process) × (living_of world call.pid ≡ Some process) × ((step world call).1 ≡ with_process world call.pid (ended process))

-- these programs are the oldest of the process
abbrev pub StandsOn : List (List Insn) → Process → Type 0
StandsOn programs process = (newer : List (List Insn)) × (process.stack ≡ programs ++ newer)

abbrev pub OfEach : (Process → Type 0) → World → Type 0
OfEach P world = AllByRecursion P world.processes

-- if these programs are the oldest of every process, like the programs of a launch, they stay so whatever calls follow
abbrev pub ProgramsStay : Type 0
ProgramsStay = (programs : List (List Insn)) (world : World) → OfEach (StandsOn programs) world → (calls : List Call)
    → OfEach (StandsOn programs) (run world calls)

-- if a world has the properties of every world, it still has them after any calls
abbrev pub WorldsStay : Type 0
WorldsStay = (world : World) → IsKernel world.processes world.namespaces → (calls : List Call)
    → IsKernel (run world calls).processes (run world calls).namespaces

-- the kernel's tables of calls and files stay
abbrev pub ToldStays : Type 0
ToldStays = (world : World) (calls : List Call) → ((run world calls).calls ≡ world.calls) × ((run world calls).site ≡ world.site)

-- after fork(2) the child equals its parent and is in the parent's namespace, so both share one table
pub record IsForked (world : World) (pid : ℕ) (process : Process) (value : ℕ) (after : World) : Type 0 where
  pub parent : process_of after pid ≡ Some process
  pub child : process_of after value ≡ Some process
  pub number : value ≡ length world.processes + 1
  pub namespaces : after.namespaces ≡ world.namespaces

abbrev pub ForkShares : Type 0
ForkShares = (world : World) (call : Call) (process : Process) (value : ℕ)
    → living_of world call.pid ≡ Some process → asked_of world.calls call ≡ Does Fork → (step world call).0 ≡ Done value
    → IsForked world call.pid process value (step world call).1

-- after clone(2) with CLONE_NEWNS alone, the child equals its parent but is in a new mount namespace of its user namespace. The
-- new table is a copy of the parent's; the copy is locked if the parent's mount namespace belongs to another user namespace
pub record IsCloned (world : World) (pid : ℕ) (process : Process) (value : ℕ) (after : World) : Type 0 where
  pub parent : process_of after pid ≡ Some process
  pub child : process_of after value ≡ Some (record process { namespace = length world.namespaces + 1 })
  pub number : value ≡ length world.processes + 1
  pub own_table : mounts_of after (length world.namespaces + 1) ≡ copied (not (owner_of world process.namespace == process.user))
      (mounts_of world process.namespace)
  pub owner : owner_of after (length world.namespaces + 1) ≡ process.user
  pub count : length after.namespaces ≡ length world.namespaces + 1

abbrev pub CloneGivesACopy : Type 0
CloneGivesACopy = (world : World) (call : Call) (process : Process) (flags value : ℕ)
    → living_of world call.pid ≡ Some process → asked_of world.calls call ≡ Does (Clone flags) → has_some newuser flags ≡ false
    → has_some newns flags ≡ true → (step world call).0 ≡ Done value
    → IsCloned world call.pid process value (step world call).1

-- after unshare(2) with CLONE_NEWNS alone, the caller is unchanged but is in a new mount namespace, whose table is as after
-- clone(2)
pub record IsUnshared (world : World) (pid : ℕ) (process : Process) (after : World) : Type 0 where
  pub caller : process_of after pid ≡ Some (record process { namespace = length world.namespaces + 1 })
  pub own_table : mounts_of after (length world.namespaces + 1) ≡ copied (not (owner_of world process.namespace == process.user))
      (mounts_of world process.namespace)
  pub owner : owner_of after (length world.namespaces + 1) ≡ process.user
  pub count : length after.namespaces ≡ length world.namespaces + 1

abbrev pub UnshareGivesACopy : Type 0
UnshareGivesACopy = (world : World) (call : Call) (process : Process) (flags value : ℕ)
    → living_of world call.pid ≡ Some process → asked_of world.calls call ≡ Does (Unshare flags) → has_some newuser flags ≡ false
    → has_some newns flags ≡ true → (step world call).0 ≡ Done value
    → IsUnshared world call.pid process (step world call).1
