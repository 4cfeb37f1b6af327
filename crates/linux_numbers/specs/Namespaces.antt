-- Types of namespaces (namespaces(7)): their names in /proc/PID/ns, and their flags (clone(2)).
use Rattle.std.specs.Prelude.{ℕ, List, codes}
use Rattle.linux_numbers.specs.declared.namespaces.NamespaceType.{NamespaceType}
use Rattle.linux_numbers.specs.declared.namespaces.NamespaceType.TheVariants.{Cgroup, Ipc, Net, Mnt, Pid, User, Uts}

abbrev pub name_of : NamespaceType → List ℕ
name_of Cgroup = codes "cgroup"
name_of Ipc = codes "ipc"
name_of Net = codes "net"
name_of Mnt = codes "mnt"
name_of Pid = codes "pid"
name_of User = codes "user"
name_of Uts = codes "uts"

-- CLONE_NEWCGROUP, CLONE_NEWIPC, CLONE_NEWNET, CLONE_NEWNS, CLONE_NEWPID, CLONE_NEWUSER, CLONE_NEWUTS
abbrev pub flag_of : NamespaceType → ℕ
flag_of Cgroup = 0x0200_0000
flag_of Ipc = 0x0800_0000
flag_of Net = 0x4000_0000
flag_of Mnt = 0x0002_0000
flag_of Pid = 0x2000_0000
flag_of User = 0x1000_0000
flag_of Uts = 0x0400_0000
