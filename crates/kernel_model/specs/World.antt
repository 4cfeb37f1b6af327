-- A world of the kernel: processes that share mount namespaces.
use Rattle.std.specs.Prelude.{ℕ, ◌+◌, ◌-◌, ◌==◌, not, Bool, true, false, List, [], ◌∷◌, ◌++◌, slice_get, slice_set, Option, Some, None, is_some}
use Rattle.std.specs.Prelude.{if◌then◌else◌}
use Rattle.call_table.specs.Table as calls
use Rattle.site_table.specs.Table.{Site, row_at}
use Rattle.kern_creds.specs.Start as creds
use Rattle.kern_creds.specs.Enter.{entered}
use Rattle.kern_mounts.specs.Split as entries
use Rattle.kern_mounts.specs.Mounts.{Mounts as Table, steps_of}
use Rattle.kernel_model.specs.declared.mount_namespace.MountNamespace.{MountNamespace}
use Rattle.kernel_model.specs.declared.process.Process.{Process}
use Rattle.kernel_model.specs.Effects.{Caller, Host}
use Rattle.kernel_model.specs.MountNamespaces.{copy_for, first_namespace, namespace_or, with_other_table}

-- the kernel's tables of calls and files, and the processes and mount namespaces; number n is at place n - 1
pub record World : Type 0 where
  pub calls : calls.Table
  pub site : Site
  pub processes : List Process
  pub namespaces : List MountNamespace
  -- the number of user namespaces besides the first
  pub users : ℕ

-- elements numbered from 1
abbrev pub of_number : {X : Type 0} → List X → ℕ → Option X
of_number xs number = if number == 0 then None else slice_get xs (number - 1)

abbrev pub put_number : {X : Type 0} → List X → ℕ → X → List X
put_number xs number x = slice_set xs (number - 1) x

-- the process with this number, living or ended, credentials(7)
abbrev pub process_of : World → ℕ → Option Process
process_of world pid = of_number world.processes pid

abbrev pub if_alive : Option Process → Option Process
if_alive None = None
if_alive (Some process) = if process.alive then Some process else None

-- the same process, if it lives
abbrev pub living_of : World → ℕ → Option Process
living_of world pid = if_alive (process_of world pid)

-- the mount namespace with this number, mount_namespaces(7)
abbrev pub namespace_of : World → ℕ → MountNamespace
namespace_of world namespace = namespace_or (of_number world.namespaces namespace)

-- its mounts
abbrev pub mounts_of : World → ℕ → Table
mounts_of world namespace = (namespace_of world namespace).table

-- their entries, on which paths are looked up
abbrev pub table_of : World → ℕ → entries.Table
table_of world namespace = steps_of (mounts_of world namespace)

abbrev pub with_process : World → ℕ → Process → World
with_process world pid process = record world { processes = put_number world.processes pid process }

abbrev pub with_table : World → ℕ → Table → World
with_table world namespace table = record world {
  namespaces = put_number world.namespaces namespace (with_other_table (namespace_of world namespace) table);
}

-- the process, no longer living
abbrev pub ended : Process → Process
ended process = record process { alive = false }

-- the kernel of a site with a systemd has PR_SET_MDWE and PR_GET_MDWE, prctl(2)
abbrev pub has_mdwe : Site → Bool
has_mdwe site = is_some site.systemd

-- the tables of the host, as a rule sees them
abbrev pub host_of : World → Host
host_of world = record { rows = row_at world.site.rows; families = world.calls.families; mdwe = has_mdwe world.site; rings = world.site.io_uring }

-- the user namespace that owns a mount namespace
abbrev pub owner_of : World → ℕ → ℕ
owner_of world namespace = (namespace_of world namespace).owner

-- the process's user namespace is not the first
abbrev pub is_newer : Process → Bool
is_newer process = not (process.user == 1)

-- the process and its table, as a rule sees them
abbrev pub caller_of : World → Process → Caller
caller_of world process = record {
  creds = process.creds;
  stack = process.stack;
  table = mounts_of world process.namespace;
  newer = is_newer process;
  owns = owner_of world process.namespace == process.user;
}

-- the world with one more process
abbrev pub with_child : World → Process → World
with_child world child = record world { processes = world.processes ++ child ∷ [] }

-- the world with one more mount namespace: the copy of another one for this user namespace
abbrev pub with_copy : World → ℕ → ℕ → World
with_copy world namespace user =
    record world { namespaces = world.namespaces ++ copy_for (namespace_of world namespace) user ∷ [] }

-- the world with one more user namespace
abbrev pub with_user : World → World
with_user world = record world { users = world.users + 1 }

-- the process in a new user namespace, where `users` counts the earlier ones besides the first
abbrev pub entered_by : Process → ℕ → Process
entered_by process users = record process { creds = entered process.creds; user = users + 2 }

-- the process in a new mount namespace, where `count` counts the earlier ones
abbrev pub moved_to : Process → ℕ → Process
moved_to process count = record process { namespace = count + 1 }

-- the first process: root, without programs, in the first mount namespace and the first user namespace
abbrev pub first_process : Process
first_process = record { creds = creds.start; stack = []; namespace = 1; user = 1; alive = true }

abbrev pub start_world : calls.Table → Site → World
start_world calls site = record
    { calls = calls; site = site; processes = first_process ∷ []; namespaces = first_namespace ∷ []; users = 0 }
