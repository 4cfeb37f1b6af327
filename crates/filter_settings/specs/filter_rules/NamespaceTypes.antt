-- The types of namespaces that RestrictNamespaces= knows, and those that it permits (systemd.exec(5)).
use Rattle.std.specs.Prelude.{Bool, List, [], ◌∷◌}
use Rattle.filter_settings.specs.linux_numbers.declared.namespaces.NamespaceType.{NamespaceType}
use Rattle.filter_settings.specs.linux_numbers.declared.namespaces.NamespaceType.TheVariants.{Cgroup, Ipc, Net, Mnt, Pid, User, Uts}
use Rattle.filter_settings.specs.declared.filter_rules.namespace_types.NamespaceTypes.{NamespaceTypes}

abbrev pub all_types : List NamespaceType
all_types = Cgroup ∷ Ipc ∷ Net ∷ Mnt ∷ Pid ∷ User ∷ Uts ∷ []

abbrev pub permits : NamespaceTypes → NamespaceType → Bool
permits types Cgroup = types.cgroup
permits types Ipc = types.ipc
permits types Net = types.net
permits types Mnt = types.mnt
permits types Pid = types.pid
permits types User = types.user
permits types Uts = types.uts
