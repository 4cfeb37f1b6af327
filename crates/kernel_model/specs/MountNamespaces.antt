-- Mount namespaces, mount_namespaces(7). Each has a mount table, and a user namespace owns it, user_namespaces(7).
use Rattle.std.specs.Prelude.{ℕ, ◌==◌, not, [], Option, Some, None}
use Rattle.kern_mounts.specs.Copying.{copied}
use Rattle.kern_mounts.specs.Mounts.{Mounts as Table, first_mounts}
use Rattle.kernel_model.specs.declared.mount_namespace.MountNamespace.{MountNamespace}

-- a mount namespace that belongs to the first user namespace
abbrev pub owned_by_first : Table → MountNamespace
owned_by_first table = record { table = table; owner = 1 }

-- the first one, with the host's table
abbrev pub first_namespace : MountNamespace
first_namespace = owned_by_first first_mounts

-- the copy for a user namespace; its table is locked if the original belongs to another user namespace
abbrev pub copy_for : MountNamespace → ℕ → MountNamespace
copy_for namespace user = record { table = copied (not (namespace.owner == user)) namespace.table; owner = user }

-- the mount namespace with another table
abbrev pub with_other_table : MountNamespace → Table → MountNamespace
with_other_table namespace table = record namespace { table = table }

-- where no mount namespace is, there are no mounts, and no user namespace owns it
abbrev pub namespace_or : Option MountNamespace → MountNamespace
namespace_or None = record { table = []; owner = 0 }
namespace_or (Some namespace) = namespace
