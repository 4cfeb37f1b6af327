-- The names of the capabilities, in the order of their numbers from 0: capabilities(7), linux/capability.h.
use Rattle.std.specs.Prelude.{ℕ, ◌+◌, ◌^◌, List, [], ◌∷◌, codes, slice_index_or}
use Rattle.std.specs.Str.{str_to_ascii_lowercase}

abbrev pub names : List (List ℕ)
names =
    codes "CAP_CHOWN" ∷ codes "CAP_DAC_OVERRIDE" ∷ codes "CAP_DAC_READ_SEARCH" ∷ codes "CAP_FOWNER" ∷
    codes "CAP_FSETID" ∷ codes "CAP_KILL" ∷ codes "CAP_SETGID" ∷ codes "CAP_SETUID" ∷
    codes "CAP_SETPCAP" ∷ codes "CAP_LINUX_IMMUTABLE" ∷ codes "CAP_NET_BIND_SERVICE" ∷ codes "CAP_NET_BROADCAST" ∷
    codes "CAP_NET_ADMIN" ∷ codes "CAP_NET_RAW" ∷ codes "CAP_IPC_LOCK" ∷ codes "CAP_IPC_OWNER" ∷
    codes "CAP_SYS_MODULE" ∷ codes "CAP_SYS_RAWIO" ∷ codes "CAP_SYS_CHROOT" ∷ codes "CAP_SYS_PTRACE" ∷
    codes "CAP_SYS_PACCT" ∷ codes "CAP_SYS_ADMIN" ∷ codes "CAP_SYS_BOOT" ∷ codes "CAP_SYS_NICE" ∷
    codes "CAP_SYS_RESOURCE" ∷ codes "CAP_SYS_TIME" ∷ codes "CAP_SYS_TTY_CONFIG" ∷ codes "CAP_MKNOD" ∷
    codes "CAP_LEASE" ∷ codes "CAP_AUDIT_WRITE" ∷ codes "CAP_AUDIT_CONTROL" ∷ codes "CAP_SETFCAP" ∷
    codes "CAP_MAC_OVERRIDE" ∷ codes "CAP_MAC_ADMIN" ∷ codes "CAP_SYSLOG" ∷ codes "CAP_WAKE_ALARM" ∷
    codes "CAP_BLOCK_SUSPEND" ∷ codes "CAP_AUDIT_READ" ∷ codes "CAP_PERFMON" ∷ codes "CAP_BPF" ∷
    codes "CAP_CHECKPOINT_RESTORE" ∷ []

-- the name of a capability
unfoldable pub name_of : ℕ → List ℕ
name_of cap' = slice_index_or names cap' []

-- a text with its ASCII letters in lower case
abbrev pub in_lower_case : List ℕ → List ℕ
in_lower_case text = str_to_ascii_lowercase text

-- each name with the word whose only bit has the number of the name
abbrev pub rows_from : ℕ → List (List ℕ) → List (List ℕ × ℕ)
rows_from cap' [] = []
rows_from cap' (name ∷ names) = (name, 2 ^ cap') ∷ rows_from (cap' + 1) names

abbrev pub table : List (List ℕ × ℕ)
table = rows_from 0 names
