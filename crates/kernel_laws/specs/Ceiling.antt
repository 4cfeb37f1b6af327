-- What bounds every process of the service, and when such bounds are left by no call.
use Rattle.std.specs.Prelude.{◌≡◌, ℕ, ◌-◌, Bool, true, false, ◌==◌, List, ◌++◌, Some, Ok, slice_get}
use Rattle.filter_settings.specs.bpf_code.declared.machine.Insn.{Insn}
use Rattle.kernel_model.specs.abs_path.Paths.{Path}
use Rattle.kernel_model.specs.cap_sets.Sets.{has, IsWithin}
use Rattle.kernel_model.specs.site_table.declared.row.Row.{Row}
use Rattle.kernel_model.specs.site_table.Table.{row_at}
use Rattle.kernel_model.specs.kern_mounts.Finds.{row, finds}
use Rattle.kernel_model.specs.kern_mounts.Table.{StartsAtRoot}
use Rattle.filter_settings.specs.linux_numbers.Capabilities.{cap_sys_admin, cap_setuid, cap_setgid}
use Rattle.kernel_laws.specs.Bounds.{Bounds, IsSettled, Admits, KeepsIn}
use Rattle.kernel_model.specs.kern_mounts.Mounts.{Mounts, steps_of, ArePlain}
use Rattle.kernel_model.specs.kern_mounts.Split.{Table}
use Rattle.kernel_model.specs.site_table.Kinds.{is_exe}
use Rattle.kernel_model.specs.kern_mounts.Unmounts.{IsTrimmed}
use Rattle.kernel_laws.specs.declared.question_types.power.Power.{Power}
use Rattle.kernel_laws.specs.declared.question_types.power.Power.TheVariants.{None as Nowise, Unmount as Unmounting, Mount as Mounting}
use Rattle.kernel_laws.specs.declared.question_types.kind.CallKind.TheVariants.{ForNamespace, ChangesMounts, RemovesMounts, SetsCaps}
use Rattle.filter_settings.specs.linux_numbers.declared.namespaces.NamespaceType.TheVariants.{User}
use Rattle.kernel_model.specs.Effects.{Effect, Refuse, Answer, SetCreds, SetTable, Push, Child, OwnTable, UserChild, OwnUser, End}
use Rattle.kernel_model.specs.kern_files.Looking.{flags_at}
use Rattle.kernel_model.specs.kern_files.Executing.{marks_of}
use Rattle.kernel_model.specs.kern_files.MountCall.{after_mount}
use Rattle.kernel_model.specs.kern_files.UmountCall.{umount_answer}
use Rattle.kernel_model.specs.kern_mounts.Copying.{locked_copy}
use Rattle.kernel_model.specs.World.{World, is_newer}
use Rattle.kernel_model.specs.declared.mount_namespace.MountNamespace.{MountNamespace}
use Rattle.kernel_model.specs.declared.process.Process.{Process}
use Rattle.kernel_laws.specs.Launched.{Launch, lets, can_make_user, makes_ring}

-- the tables that a process can have at a power
abbrev pub CanHave : Power → Table → Table → Type 0
CanHave Nowise launched table = table ≡ launched
CanHave Unmounting launched table = IsTrimmed table launched
CanHave Mounting launched table = Unit {0}

-- and the mounts: their entries are such a table, none is locked, and none keeps a flag
pub record CanHold (power : Power) (launched : Table) (mounts : Mounts) : Type 0 where
  pub plain : ArePlain mounts
  pub entries : CanHave power launched (steps_of mounts)

-- a row that execve can run with its marks honoured
pub record CanRun (launch : Launch) (power : Power) (target : Row) : Type 0 where
  pub table : Table
  pub path : Path
  pub allowed : CanHave power launch.table table
  pub found : finds (row_at launch.site.rows) table path ≡ row target
  pub exe : is_exe target.kind ≡ true
  pub runs : (flags_at table path).no_exec ≡ false
  pub suid : (flags_at table path).no_suid ≡ false

-- bounds that no call leaves, unless it uses CAP_SETUID or CAP_SETGID where that may not be used
pub record IsClosed (launch : Launch) (uids gids : Bool) (power : Power) (top : Bounds) : Type 0 where
  pub settled : IsSettled top
  pub rooted : StartsAtRoot launch.table
  pub files : (target : Row) → top.no_new_privs ≡ false → CanRun launch power target
      → (target.effective ≡ true → IsWithin target.caps top.bounding) → Admits top (marks_of target)
  pub capset_effective : lets launch SetsCaps ≡ true → IsWithin top.permitted top.effective
  pub capset_inheritable : lets launch SetsCaps ≡ true → IsWithin top.bounding top.inheritable
  pub any_uid : uids ≡ true → has top.effective cap_setuid ≡ true → (id : ℕ) → top.uid id ≡ true
  pub any_gid : gids ≡ true → has top.effective cap_setgid ≡ true → (id : ℕ) → top.gid id ≡ true
  pub ring : makes_ring launch ≡ true → top.ring ≡ true
  pub mount : lets launch ChangesMounts ≡ true → has top.effective cap_sys_admin ≡ true → power ≡ Mounting
  pub umount : lets launch RemovesMounts ≡ true → has top.effective cap_sys_admin ≡ true → (power ≡ Nowise) → ⊥

-- a fact about the mount tables of newer user namespaces that no call changes. It holds of copies of tables that processes of the first
-- one can have, and of all that mount(2) and umount2(2) make of them
pub record IsStable (launch : Launch) (power : Power) (below : Mounts → Type 0) : Type 0 where
  pub begins : (mounts : Mounts) → CanHold power launch.table mounts → below (locked_copy mounts)
  pub copies : (mounts : Mounts) → below mounts → below (locked_copy mounts)
  pub mounts : (mounts now : Mounts) (source target : Path) (flags : ℕ) → below mounts
      → after_mount (row_at launch.site.rows) mounts source target flags ≡ Ok now → below now
  pub unmounts : (mounts now : Mounts) (path : Path) (flags : ℕ) → below mounts → umount_answer mounts path flags ≡ Ok now
      → below now

-- the mount table, by whether it belongs to the first user namespace
abbrev pub TableIn : Bool → Launch → Power → (Mounts → Type 0) → Mounts → Type 0
TableIn true launch power below mounts = CanHold power launch.table mounts
TableIn false launch power below mounts = below mounts

-- what holds of each process in each world of a run
pub record IsHeld (launch : Launch) (power : Power) (top : Bounds) (below : Mounts → Type 0) (namespaces : List MountNamespace) (process : Process) : Type 0 where
  pub creds : KeepsIn (is_newer process) top process.creds
  pub newer : List (List Insn)
  pub stack : process.stack ≡ launch.stack ++ newer
  -- its mount namespace
  pub space : MountNamespace
  pub numbered : (process.namespace == 0) ≡ false
  pub own : slice_get namespaces (process.namespace - 1) ≡ Some space
  pub allowed : TableIn (space.owner == 1) launch power below space.table
  -- in the first user namespace it is in a mount namespace of that, and another one was made
  pub home : is_newer process ≡ false → space.owner ≡ 1
  pub made : is_newer process ≡ true → can_make_user launch ≡ true

-- the table of calls and the site stay, and each process that was made is held
pub record AreHeld (launch : Launch) (power : Power) (top : Bounds) (below : Mounts → Type 0) (world : World) : Type 0 where
  pub calls : world.calls ≡ launch.calls
  pub site : world.site ≡ launch.site
  pub each : (at : ℕ) (process : Process) → slice_get world.processes at ≡ Some process
      → IsHeld launch power top below world.namespaces process

-- an effect that keeps within the bounds, by whether the process is in a newer user namespace and whether its mount namespace belongs to
-- the first one
abbrev pub IsSafe : Launch → Power → Bounds → (Mounts → Type 0) → Bool → Bool → Effect → Type 0
IsSafe launch power top below newer ours (SetCreds value creds) = KeepsIn newer top creds
IsSafe launch power top below newer ours (SetTable table) = TableIn ours launch power below table
IsSafe launch power top below newer ours (UserChild own) = lets launch (ForNamespace User) ≡ true
IsSafe launch power top below newer ours (OwnUser own) = lets launch (ForNamespace User) ≡ true
IsSafe launch power top below newer ours (Refuse error) = Unit {0}
IsSafe launch power top below newer ours (Answer value) = Unit {0}
IsSafe launch power top below newer ours (Push program) = Unit {0}
IsSafe launch power top below newer ours (Child own) = Unit {0}
IsSafe launch power top below newer ours OwnTable = Unit {0}
IsSafe launch power top below newer ours End = Unit {0}
