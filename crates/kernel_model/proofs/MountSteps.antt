-- Mount steps: at the root, on a table, and in the world.
use Rattle.std.proofs.Common.{◌≡◌, ℕ, ◌<◌, ◌-◌, ◌+◌, true, length, get_or, Option, Some, Result, Ok, Err}
use Rattle.std.proofs.Common.{sym, ap, ◌∙◌, subst, arith}
use Rattle.std.specs.Prelude.{slice_set, OnErr, OnOk}
use Rattle.site_table.specs.abs_path.Paths.{is_root}
use Rattle.kern_mounts.specs.linux_numbers.Limits.{mount_max}
use Rattle.call_table.specs.Table as calls
use Rattle.site_table.specs.Table.{Site}
use Rattle.kern_mounts.specs.declared.step.MountStep.{MountStep}
use Rattle.kern_mounts.specs.Mounts.{Mounts as Table}
use Rattle.kern_mounts.specs.Remount.{with_root_flags}
use Rattle.kernel_model.specs.declared.mount_namespace.MountNamespace.{MountNamespace}
use Rattle.kernel_model.specs.MountNamespaces.{namespace_or, with_other_table}
use Rattle.kernel_model.specs.World.{of_number, mounts_of}
use Rattle.kernel_model.specs.Worlds.{IsKernel}
use Rattle.kernel_model.specs.State.{State, world_of, place_of, AtPlace, namespace_in, stepped_in}
use Rattle.kernel_model.specs.MountStep.{with_step}
use Rattle.kernel_model.proofs.Lists.{get_some}
use Rattle.kernel_model.proofs.Places.{has_number, some_at, stands}
use Rattle.kernel_model.proofs.Rooted.{rooted_step}
use Rattle.kernel_model.proofs.Kernels.{kernel_table, rooted_table, living_space}

pub steps_at_root : (table new : Table) (step : MountStep) → is_root step.place ≡ true → new ≡ with_root_flags step.flags table
    → new ≡ with_step table step
steps_at_root table new step e h = rw e h

rooms : (state : State) (place at : ℕ) (space : MountNamespace) → place < length state.processes → at < length state.namespaces
    → space ≡ get_or state.namespaces at space → AtPlace state place (λ pid process. at + 1 ≡ process.namespace)
    → AtPlace state place (λ pid process. length (namespace_in state process.namespace).table < mount_max)
    → length space.table < mount_max
rooms state place at space there inside is numbers room =
    let who = some_at state.processes place there in
    let number : place ≡ place + 1 - 1 = omega arith in
    let has : of_number state.namespaces who.0.namespace ≡ Some space = has_number state.namespaces who.0.namespace at space (numbers (place + 1) who.0 number who.1) (get_some state.namespaces at space inside is) in
    subst (λ (o : Option MountNamespace). length (namespace_or o).table < mount_max) has (room (place + 1) who.0 number who.1)

pub room_there : (viewed state : State) → viewed ≡ state → (place at : ℕ) (space : MountNamespace) → place < length state.processes
    → at < length state.namespaces → space ≡ get_or viewed.namespaces at space
    → AtPlace state place (λ pid process. at + 1 ≡ process.namespace)
    → AtPlace state place (λ pid process. length (namespace_in state process.namespace).table < mount_max)
    → length space.table < mount_max
room_there viewed state v place at space there inside is numbers room =
    rooms state place at space there inside (subst (λ (s : State). space ≡ get_or s.namespaces at space) v is) numbers room

-- the table in its place is that of the mount namespace
pub stepped_there : {T E : Type 0} (viewed state : State) → viewed ≡ state
    → (place at : ℕ) (space : MountNamespace) (new : Table) (step : MountStep) (result : Result T E) → at < length state.namespaces
    → space ≡ get_or viewed.namespaces at space → AtPlace state place (λ pid process. at + 1 ≡ process.namespace)
    → OnOk result (new ≡ with_step space.table step)
    → OnOk result (AtPlace state place
    (λ pid process. record viewed { namespaces = slice_set viewed.namespaces at (with_other_table space new) }
    ≡ stepped_in state process.namespace step))
stepped_there viewed state v place at space new step (Err e) inside is numbers h = tt
stepped_there viewed state v place at space new step (Ok t) inside is numbers h = λ pid process place_is stands.
    let number : at + 1 ≡ process.namespace = numbers pid process place_is stands in
    let has : of_number state.namespaces process.namespace ≡ Some space = has_number state.namespaces process.namespace at space number (get_some state.namespaces at space inside (subst (λ (s : State). space ≡ get_or s.namespaces at space) v is)) in
    let own : namespace_in state process.namespace ≡ space = ap namespace_or has in
    let there : process.namespace - 1 ≡ at = omega (arith, number) in
    ap (λ (s : State). record s { namespaces = slice_set s.namespaces at (with_other_table space new) }) v
    ∙ ap (λ (t : Table). record state { namespaces = slice_set state.namespaces at (with_other_table space t) }) h
    ∙ ap (λ (x : MountNamespace). record state {
      namespaces = slice_set state.namespaces at (with_other_table x (with_step x.table step));
    }) (sym own)
    ∙ ap (λ (n : ℕ). record state {
      namespaces = slice_set state.namespaces n
          (with_other_table (namespace_in state process.namespace) (with_step (namespace_in state process.namespace).table step));
    }) (sym there)

-- what holds of every world, after a mount step
pub kernel_stepped : {T E : Type 0} (calls : calls.Table) (site : Site) (old new : State) (pid place : ℕ) (step : MountStep)
    (result : Result T E) → place_of old.processes pid ≡ Some place → IsKernel old.processes old.namespaces
    → OnOk result (AtPlace old place (λ pid process. new ≡ stepped_in old process.namespace step))
    → OnErr result (new ≡ old) → IsKernel new.processes new.namespaces
kernel_stepped calls site old new pid place step (Err e) at k h s = rw s k
kernel_stepped calls site old new pid place step (Ok t) at k h s =
    let who = stands (world_of calls site old) pid place at in
    let space = living_space (world_of calls site old) pid who.caller k who.lives in
    let table = rooted_table (world_of calls site old) who.caller k space in
    let after = kernel_table (world_of calls site old) who.caller.namespace (with_step (mounts_of (world_of calls site old) who.caller.namespace) step) k (rooted_step (mounts_of (world_of calls site old) who.caller.namespace) step table) in
    subst (λ (s : State). IsKernel s.processes s.namespaces) (sym (h pid who.caller who.place_is who.stands)) after
