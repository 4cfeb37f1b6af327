-- The properties of every world, whatever calls its processes make.
use Rattle.std.specs.Prelude.{◌≡◌, ℕ, ◌≤◌, false, List, [], ◌∷◌, length}
use Rattle.std.specs.List.{AllByRecursion}
use Rattle.site_table.specs.abs_path.Paths.{is_root}
use Rattle.kern_mounts.specs.Split as entries
use Rattle.kern_mounts.specs.Mounts.{Mounts as Table, steps_of}
use Rattle.kernel_model.specs.declared.mount_namespace.MountNamespace.{MountNamespace}
use Rattle.kernel_model.specs.declared.process.Process.{Process}
use Rattle.kernel_model.specs.Step.{most_processes, most_namespaces}

-- the process's mount namespace is one of the first `count`
pub record HasSpace (count : ℕ) (process : Process) : Type 0 where
  pub numbered : 1 ≤ process.namespace
  pub within : process.namespace ≤ count

-- the first entry is at `/`, and no other is
abbrev pub AreRooted : entries.Table → Type 0
AreRooted [] = ⊥
AreRooted (first ∷ table) = (first.place ≡ []) × AllByRecursion (λ entry. is_root entry.place ≡ false) table

-- the first mount is at `/`, and no other is
abbrev pub IsRooted : Table → Type 0
IsRooted mounts = AreRooted (steps_of mounts)

-- the mount namespace's table has its first mount at `/`, and no other there
abbrev pub HasRoot : MountNamespace → Type 0
HasRoot namespace = IsRooted namespace.table

pub record IsKernel (processes : List Process) (namespaces : List MountNamespace) : Type 0 where
  pub few_processes : length processes ≤ most_processes
  pub few_namespaces : length namespaces ≤ most_namespaces
  pub spaces : AllByRecursion (HasSpace (length namespaces)) processes
  pub roots : AllByRecursion HasRoot namespaces
