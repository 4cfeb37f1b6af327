-- What a process that may mount makes of its mount table, call by call, capabilities(7), CAP_SYS_ADMIN.
use Rattle.std.specs.Prelude.{◌≡◌, ℕ, Bool, true, false, List, [], ◌∷◌, Some, map, ◌==◌}
use Rattle.kernel_laws.specs.abs_path.Paths.{Path, proc}
use Rattle.kernel_laws.specs.bpf_code.declared.decision.Decision.TheVariants.{Pass}
use Rattle.kernel_laws.specs.cap_sets.Sets.{has}
use Rattle.kernel_laws.specs.linux_numbers.Capabilities.{cap_sys_admin}
use Rattle.kernel_laws.specs.site_table.declared.row.Row.{Row}
use Rattle.kernel_laws.specs.site_table.Table.{IsSite, row_at}
use Rattle.kernel_laws.specs.kern_mounts.Launch.{CanBeMounted}
use Rattle.kernel_laws.specs.kern_mounts.Mounts.{plain}
use Rattle.kernel_laws.specs.kern_mounts.Split.{Table}
use Rattle.kernel_laws.specs.kern_mounts.Unmounts.{Unmounts}
use Rattle.kernel_laws.specs.kernel_model.kern_files.Bits.{has_all}
use Rattle.kernel_laws.specs.kernel_model.kern_files.MountCall.{ms_bind, ms_remount_bind, has_other_kind}
use Rattle.kernel_laws.specs.kernel_model.kern_files.UmountCall.{mnt_detach}
use Rattle.kernel_laws.specs.kernel_model.kernel_calls.Calls.{IsPath}
use Rattle.kernel_laws.specs.kernel_model.kernel_calls.Operation.{Operation, Mount, Umount, Does, asked_of}
use Rattle.kernel_laws.specs.kernel_model.declared.kernel_calls.call.Call.{Call}
use Rattle.kernel_laws.specs.kernel_model.Runs.{moments, run, AllDone}
use Rattle.kernel_laws.specs.kernel_model.Step.{decision_of}
use Rattle.kernel_laws.specs.kernel_model.World.{World, living_of, of_number}
use Rattle.kernel_laws.specs.kernel_model.declared.mount_namespace.MountNamespace.{MountNamespace}
use Rattle.kernel_laws.specs.kernel_model.declared.process.Process.{Process}
use Rattle.reach_paths.specs.Finding.{dirs_of}
use Rattle.reach_paths.specs.Mounting.{IsBelowProc}

-- the process lives, has the capability in the user namespace that its mount namespace belongs to, and this is its table, of mounts that
-- are not locked and keep nothing
pub record CanMount (world : World) (pid : ℕ) (process : Process) (table : Table) : Type 0 where
  pub lives : living_of world pid ≡ Some process
  pub admin : has process.creds.effective cap_sys_admin ≡ true
  -- its mount namespace
  pub space : MountNamespace
  pub own : of_number world.namespaces process.namespace ≡ Some space
  pub owns : (space.owner == process.user) ≡ true
  pub mounts : space.table ≡ map plain table

-- a call of the process that asks for this, and that its filters let through
pub record AsksFor (world : World) (pid : ℕ) (process : Process) (call : Call) (operation : Operation) : Type 0 where
  pub caller : call.pid ≡ pid
  pub through : decision_of world call process ≡ Pass
  pub asks : asked_of world.calls call ≡ Does operation

-- every call is done, and then the process may still mount, and its namespace has this table
pub record LeadsTo (world : World) (pid : ℕ) (process : Process) (calls : List Call) (now : Table) : Type 0 where
  pub done : AllDone (moments world calls)
  pub can : CanMount (run world calls) pid process now

-- a bind of `/` and a remount of it, by a process that may mount: both are done, and then it finds every row
pub record FindsEachRow (world : World) (pid : ℕ) (process : Process) (calls : List Call) (flags : ℕ) : Type 0 where
  pub now : Table
  pub leads : LeadsTo world pid process calls now
  pub each_row : (target : Row) → row_at world.site.rows target.path ≡ Some target → IsBelowProc world.site now flags target

abbrev pub MountingShowsAll : Type 0
MountingShowsAll = (world : World) (pid : ℕ) (process : Process) (table : Table) (bind remount : Call) (flags : ℕ)
    → CanMount world pid process table → IsSite world.site → CanBeMounted (dirs_of world.site) table
    → has_all ms_remount_bind flags ≡ true → has_other_kind flags ≡ false
    → AsksFor world pid process bind (Mount [] proc ms_bind) → AsksFor world pid process remount (Mount [] proc flags)
    → FindsEachRow world pid process (bind ∷ remount ∷ []) flags

-- umount2(2) with MNT_DETACH or without
abbrev pub umount_flags : Bool → ℕ
umount_flags true = mnt_detach
umount_flags false = 0

-- the process has a call for each path that it can name
abbrev pub CanAskToUnmount : World → ℕ → Process → Type 0
CanAskToUnmount world pid process = (path : Path) (detach : Bool) → IsPath path
    → (call : Call) × AsksFor world pid process call (Umount path (umount_flags detach))

-- whatever calls of umount2(2) make of the table, a process that may unmount makes of it, each call done
abbrev pub UnmountingIsDone : Type 0
UnmountingIsDone = (world : World) (pid : ℕ) (process : Process) (table now : Table)
    → CanMount world pid process table → CanBeMounted (dirs_of world.site) table → CanAskToUnmount world pid process
    → Unmounts table now → (calls : List Call) × LeadsTo world pid process calls now
