-- Limits and special numbers.
use Rattle.std.specs.Prelude.{ℕ}

-- the greatest number that a system call can return as an error, <linux/err.h>
abbrev pub max_errno : ℕ
max_errno = 4095

-- the id -1: no id, or an unchanged id, setresuid(2)
abbrev pub no_id : ℕ
no_id = 4294967295

-- the most supplementary groups, setgroups(2)
abbrev pub ngroups_max : ℕ
ngroups_max = 65536

-- the most instructions of a program, seccomp(2)
abbrev pub bpf_maxinsns : ℕ
bpf_maxinsns = 4096

-- the most instructions of all programs of a process, with 4 for each but the first, seccomp(2)
abbrev pub max_insns_per_path : ℕ
max_insns_per_path = 32768

-- the most mounts of a namespace in this model; proc_sys_fs(5) has mount-max
abbrev pub mount_max : ℕ
mount_max = 4096
