-- The processes and mount namespaces of a world, without the kernel's tables of calls and files.
use Rattle.std.specs.Prelude.{◌≡◌, ℕ, ◌-◌, ◌==◌, ◌<◌, if◌then◌else◌, List, [], ◌∷◌, ◌++◌, slice_get, Option, Some, None, option_map}
use Rattle.call_table.specs.Table as calls
use Rattle.site_table.specs.Table.{Site, row_at}
use Rattle.kern_mounts.specs.declared.step.MountStep.{MountStep}
use Rattle.kernel_model.specs.declared.mount_namespace.MountNamespace.{MountNamespace}
use Rattle.kernel_model.specs.declared.process.Process.{Process}
use Rattle.kernel_model.specs.declared.reply.Reply.{Reply}
use Rattle.kernel_model.specs.declared.told.Told.{Told}
use Rattle.kernel_model.specs.kernel_calls.Operation.{Operation}
use Rattle.kernel_model.specs.Effects.{Effect, Host, effect_of}
use Rattle.kernel_model.specs.MountNamespaces.{copy_for, namespace_or, with_other_table}
use Rattle.kernel_model.specs.MountStep.{with_step}
use Rattle.kernel_model.specs.World.{World, of_number, put_number, if_alive, has_mdwe, host_of, caller_of}
use Rattle.kernel_model.specs.Step.{applied}

-- number n is at place n - 1
pub record State : Type 0 where
  pub processes : List Process
  pub namespaces : List MountNamespace
  pub users : ℕ

abbrev pub world_of : calls.Table → Site → State → World
world_of calls site state =
    record { calls = calls; site = site; processes = state.processes; namespaces = state.namespaces; users = state.users }

abbrev pub world_with : Told → State → World
world_with told state = world_of told.calls.now told.site.now state

abbrev pub host_by : calls.Table → Site → Host
host_by calls site = record { rows = row_at site.rows; families = calls.families; mdwe = has_mdwe site; rings = site.io_uring }

abbrev pub host_with : Told → Host
host_with told = host_by told.calls.now told.site.now

-- the effect of what a process asks for
abbrev pub effect_in : World → Process → Operation → Effect
effect_in world process operation = effect_of (host_of world) (caller_of world process) operation

-- the place of the living process with this number
abbrev pub place_of : List Process → ℕ → Option ℕ
place_of processes pid = if pid == 0 then None else option_map (λ process. pid - 1) (if_alive (slice_get processes (pid - 1)))

-- a fact of the process at this place, for each number that has this place
abbrev pub AtPlace : State → ℕ → (ℕ → Process → Type 0) → Type 0
AtPlace state place Fact = (pid : ℕ) (process : Process) → place ≡ pid - 1 → slice_get state.processes place ≡ Some process
    → Fact pid process

-- the reply and the state after this effect, for any tables of calls and files
abbrev pub Applies : State → ℕ → Effect → Reply → State → Type 0
Applies old place effect reply new = (calls : calls.Table) (site : Site)
    → AtPlace old place (λ pid process. (reply, world_of calls site new) ≡ applied (world_of calls site old) pid process effect)

-- the same, for this site and any table of calls
abbrev pub AppliesAt : Site → State → ℕ → Effect → Reply → State → Type 0
AppliesAt site old place effect reply new = (calls : calls.Table)
    → AtPlace old place (λ pid process. (reply, world_of calls site new) ≡ applied (world_of calls site old) pid process effect)

-- the same, for every site that allows one more user namespace
abbrev pub AppliesUser : State → ℕ → Effect → Reply → State → Type 0
AppliesUser old place effect reply new = (site : Site) → old.users < site.user_namespaces → AppliesAt site old place effect reply new

-- one more mount namespace: the copy of the one at a place for a user namespace
abbrev pub AddsCopy : List MountNamespace → ℕ → ℕ → List MountNamespace → Type 0
AddsCopy old at user new = (own : MountNamespace) → slice_get old at ≡ Some own → new ≡ old ++ copy_for own user ∷ []

-- the mount namespace with this number
abbrev pub namespace_in : State → ℕ → MountNamespace
namespace_in state number = namespace_or (of_number state.namespaces number)

-- the state after a mount step on the table of the mount namespace with this number
abbrev pub stepped_in : State → ℕ → MountStep → State
stepped_in state number step = record state {
  namespaces = put_number state.namespaces number
      (with_other_table (namespace_in state number) (with_step (namespace_in state number).table step));
}
