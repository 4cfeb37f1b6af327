-- The table of the sample's calls.txt, as its lines spell it.
use Rattle.std.specs.Prelude.{ℕ, codes, Some, None, List, [], ◌∷◌}
use Rattle.launcher.specs.linux_numbers.Capabilities.{cap_sys_module, cap_sys_rawio, cap_sys_admin, cap_sys_time, cap_syslog}
use Rattle.launcher.specs.call_table.Table.{Table}
use Rattle.launcher.specs.call_table.declared.call_names.kernel.Kernel.TheVariants.{Base}
use Rattle.launcher.specs.call_table.declared.listed.CallLine.{CallLine}
use Rattle.launcher.specs.call_table.declared.listed.GroupLine.{GroupLine}

-- a call or a family without a capability, and one with a capability
abbrev pub plain : List ℕ → ℕ → CallLine
plain name number = record { name = name; number = number; cap = None; abi = 0; kernel = Base }

abbrev pub capable : List ℕ → ℕ → ℕ → CallLine
capable name number cap = record { name = name; number = number; cap = Some cap; abi = 0; kernel = Base }

-- for raw sockets (capabilities(7))
abbrev pub cap_net_raw : ℕ
cap_net_raw = 13

-- a group of the calls at these positions
abbrev pub grouped : List ℕ → List ℕ → GroupLine
grouped name members = record { name = name; members = members }

unfoldable pub sample_calls : List CallLine
sample_calls =
    plain (codes "read") 0 ∷
    plain (codes "write") 1 ∷
    plain (codes "open") 2 ∷
    plain (codes "close") 3 ∷
    plain (codes "stat") 4 ∷
    plain (codes "mmap") 9 ∷
    plain (codes "mprotect") 10 ∷
    plain (codes "shmat") 30 ∷
    plain (codes "getpid") 39 ∷
    plain (codes "socket") 41 ∷
    plain (codes "clone") 56 ∷
    plain (codes "fork") 57 ∷
    plain (codes "execve") 59 ∷
    plain (codes "exit") 60 ∷
    plain (codes "truncate") 76 ∷
    plain (codes "chmod") 90 ∷
    capable (codes "syslog") 103 cap_syslog ∷
    plain (codes "setuid") 105 ∷
    plain (codes "setgroups") 116 ∷
    plain (codes "setresuid") 117 ∷
    plain (codes "setresgid") 119 ∷
    plain (codes "capset") 126 ∷
    plain (codes "personality") 135 ∷
    plain (codes "sched_setscheduler") 144 ∷
    plain (codes "prctl") 157 ∷
    capable (codes "settimeofday") 164 cap_sys_time ∷
    plain (codes "mount") 165 ∷
    plain (codes "umount2") 166 ∷
    capable (codes "sethostname") 170 cap_sys_admin ∷
    capable (codes "iopl") 172 cap_sys_rawio ∷
    capable (codes "init_module") 175 cap_sys_module ∷
    plain (codes "exit_group") 231 ∷
    plain (codes "openat") 257 ∷
    plain (codes "unshare") 272 ∷
    plain (codes "setns") 308 ∷
    plain (codes "seccomp") 317 ∷ []

unfoldable pub sample_groups : List GroupLine
sample_groups =
    grouped (codes "default") (8 ∷ 12 ∷ 13 ∷ 31 ∷ []) ∷
    grouped (codes "clock") (25 ∷ []) ∷
    grouped (codes "module") (30 ∷ []) ∷
    grouped (codes "raw-io") (29 ∷ []) ∷
    grouped (codes "mount") (26 ∷ 27 ∷ []) ∷
    grouped (codes "system-service") (0 ∷ 1 ∷ 2 ∷ 3 ∷ 4 ∷ 5 ∷ 6 ∷ 8 ∷ 9 ∷ 10 ∷ 11 ∷ 12 ∷ 13 ∷ 19 ∷ 31 ∷ 32 ∷ []) ∷ []

unfoldable pub sample_families : List CallLine
sample_families =
    plain (codes "AF_UNIX") 1 ∷ plain (codes "AF_INET") 2 ∷ plain (codes "AF_INET6") 10 ∷ plain (codes "AF_NETLINK") 16 ∷ capable
    (codes "AF_PACKET") 17 cap_net_raw ∷ []

-- AUDIT_ARCH_X86_64 (linux/audit.h), and no second ABI
abbrev pub sample_table : Table
sample_table = record { name = codes "x86-64"; arch = 0xc000003e; calls = sample_calls; families = sample_families; groups = sample_groups; second = None }
