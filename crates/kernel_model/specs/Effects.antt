-- The effect of a call on its caller and the caller's mount table: the call's rule, with the errors in their order.
use Rattle.std.specs.Prelude.{ℕ, ◌+◌, ◌==◌, ◌&&◌, ◌||◌, not, nat_lt, nat_le, Bool, true, false, List, length, Option, Some, None, Result}
use Rattle.std.specs.Prelude.{Ok, Err, if◌then◌else◌}
use Rattle.bpf_code.specs.declared.machine.Insn.{Insn}
use Rattle.bpf_code.specs.ProgramOf.{program_of}
use Rattle.bpf_code.specs.Stack.{room_of}
use Rattle.site_table.specs.cap_sets.Sets.{has}
use Rattle.site_table.specs.abs_path.Paths.{Path}
use Rattle.kern_mounts.specs.linux_numbers.Errnos.{eperm, ebadf, eacces, einval, enomem, eopnotsupp, eafnosupport}
use Rattle.kern_mounts.specs.linux_numbers.Capabilities.{cap_sys_admin, cap_sys_nice, cap_last_cap}
use Rattle.kern_mounts.specs.linux_numbers.Limits.{max_insns_per_path, no_id}
use Rattle.kern_mounts.specs.linux_numbers.Namespaces.{flag_of}
use Rattle.kern_mounts.specs.linux_numbers.declared.namespaces.NamespaceType.TheVariants.{Mnt, User}
use Rattle.call_table.specs.declared.listed.CallLine.{CallLine}
use Rattle.call_table.specs.Lookups.{numbered}
use Rattle.site_table.specs.declared.row.Row.{Row}
use Rattle.kern_creds.specs.declared.creds.Creds.{Creds}
use Rattle.kern_creds.specs.Setuid.{after_setuid, after_setgid}
use Rattle.kern_creds.specs.Setresuid.{after_setresuid, after_setresgid}
use Rattle.kern_creds.specs.Setgroups.{after_setgroups}
use Rattle.kern_creds.specs.Capset.{after_capset}
use Rattle.kern_creds.specs.Prctl.{after_drop_bounding, after_raise, after_lower, after_clear_ambient, after_set_keepcaps}
use Rattle.kern_creds.specs.Prctl.{after_set_no_new_privs, after_set_mdwe}
use Rattle.kern_creds.specs.Ring.{after_set_up_ring}
use Rattle.kern_mounts.specs.Finds.{finds}
use Rattle.kern_mounts.specs.Mounts.{Mounts as Table, steps_of}
use Rattle.kernel_model.specs.kern_files.Bits.{has_some, has_all}
use Rattle.kernel_model.specs.kern_files.Looking.{flags_at, see_answer, write_answer, open_answer}
use Rattle.kernel_model.specs.kern_files.Executing.{exec_answer_in}
use Rattle.kernel_model.specs.kernel_calls.Operation.{Operation, See, Open, Create, Truncate, Execve, SetMode, Map, Protect, Attach, Schedule}
use Rattle.kernel_model.specs.kernel_calls.Operation.{Personality, Socket, Enter, Fork, Clone, Unshare, Exit, Mount, Umount, Setuid, Setgid}
use Rattle.kernel_model.specs.kernel_calls.Operation.{Setresuid, Setresgid, Setgroups, Capset, Prctl, Seccomp, Plain, Socketcall, Socketpair}
use Rattle.kernel_model.specs.kernel_calls.Operation.{SetAttributes, SetUpRing, Submit}
use Rattle.kernel_model.specs.declared.kernel_calls.request.Request.{Request}
use Rattle.kernel_model.specs.declared.kernel_calls.request.Request.TheVariants.{Stat, Open as AskOpen, Socket as AskSocket, Mode}
use Rattle.kernel_model.specs.kern_files.MountCall.{after_mount}
use Rattle.kernel_model.specs.kern_files.UmountCall.{umount_answer}

pub data Effect : Type 0 where
  -- an errno, and nothing changes
  Refuse : ℕ → Effect
  -- a value, and nothing changes
  Answer : ℕ → Effect
  -- a value, and these become the caller's credentials
  SetCreds : ℕ → Creds → Effect
  -- 0, and this becomes the table of the caller's namespace
  SetTable : Table → Effect
  -- 0, and the caller has this program on top of its others
  Push : List Insn → Effect
  -- a copy of the caller, if there is room for a process; `true` asks for a namespace of its own
  Child : Bool → Effect
  -- 0, and the caller moves to a namespace of its own, if there is room for one
  OwnTable : Effect
  -- a copy of the caller in a user namespace of its own, if there is room for both; `true` asks for a mount namespace of its
  -- own, too
  UserChild : Bool → Effect
  -- 0, and the caller moves to a user namespace of its own, if there is room; `true` asks for a mount namespace of its own, too
  OwnUser : Bool → Effect
  -- 0, and the caller ends
  End : Effect

-- the caller's credentials, programs (the oldest first), mount table and namespaces
pub record Caller : Type 0 where
  pub creds : Creds
  pub stack : List (List Insn)
  pub table : Table
  -- its user namespace is not the first
  pub newer : Bool
  -- its mount namespace belongs to its user namespace
  pub owns : Bool

-- the host: its rows, the families of sockets, whether its prctl(2) has PR_SET_MDWE and PR_GET_MDWE, and whether processes can set up
-- rings
pub record Host : Type 0 where
  pub rows : Path → Option Row
  pub families : List CallLine
  pub mdwe : Bool
  pub rings : Bool

-- the effect of a rule that changes nothing
abbrev pub looks : Result ℕ ℕ → Effect
looks (Ok value) = Answer value
looks (Err errno) = Refuse errno

-- the effect of a rule on credentials, credentials(7)
abbrev pub creds_effect : Result Creds ℕ → Effect
creds_effect (Ok creds) = SetCreds 0 creds
creds_effect (Err errno) = Refuse errno

-- the effect of a rule on a mount table, mount_namespaces(7)
abbrev pub table_effect : Result Table ℕ → Effect
table_effect (Ok table) = SetTable table
table_effect (Err errno) = Refuse errno

-- EPERM if the capability is not effective, capabilities(7); else the rule's effect
abbrev pub with_cap : ℕ → Creds → Effect → Effect
with_cap cap creds effect = if has creds.effective cap then effect else Refuse eperm

abbrev pub with_cap_of : Option ℕ → Creds → Effect → Effect
with_cap_of None creds effect = effect
with_cap_of (Some cap) creds effect = with_cap cap creds effect

-- the call needs CAP_SYS_ADMIN
abbrev pub with_admin : Creds → Effect → Effect
with_admin creds effect = with_cap cap_sys_admin creds effect

-- a capability counts for resources of the first user namespace only if the process is in it, user_namespaces(7),
-- "Capabilities"
abbrev pub first_alone : Bool → Option ℕ → Effect → Effect
first_alone false cap effect = effect
first_alone true None effect = effect
first_alone true (Some cap) effect = Refuse eperm

-- a capability counts for the mounts of a mount namespace only in the user namespace that owns it
abbrev pub with_own : Bool → Effect → Effect
with_own owns effect = if owns then effect else Refuse eperm

-- setuid(2) and setgid(2) in a newer user namespace, whose ids are not mapped: EINVAL
abbrev pub with_mapped : Bool → Effect → Effect
with_mapped newer effect = if newer then Refuse einval else effect

-- setresuid(2) and setresgid(2) there: only -1 is valid, and leaves an id unchanged
abbrev pub with_mapped_ids : Bool → ℕ → ℕ → ℕ → Effect → Effect
with_mapped_ids newer real effective saved effect =
    if newer then (if (real == no_id && effective == no_id) && saved == no_id then Answer 0 else Refuse einval) else effect

-- setgroups(2) there: EPERM, because its group ids are not mapped
abbrev pub with_groups : Bool → Effect → Effect
with_groups newer effect = if newer then Refuse eperm else effect

-- mmap(2), mprotect(2) and pkey_mprotect(2): EACCES for memory with PROT_WRITE and PROT_EXEC, if PR_SET_MDWE of prctl(2) refuses such
-- memory to the process
abbrev pub protect_effect : Creds → ℕ → Effect
protect_effect creds protection = if has_all 6 protection && creds.mdwe then Refuse eacces else Answer 0

-- shmat(2): the same for SHM_EXEC without SHM_RDONLY
abbrev pub attach_effect : Creds → ℕ → Effect
attach_effect creds flags = if (has_all 0x8000 flags && not (has_all 0x1000 flags)) && creds.mdwe then Refuse eacces else Answer 0

-- sched(7): SCHED_OTHER, SCHED_FIFO, SCHED_RR, SCHED_BATCH and SCHED_IDLE, which are 0 to 3 and 5
abbrev pub is_policy : ℕ → Bool
is_policy policy = nat_lt policy 4 || policy == 5

-- sched_setscheduler(2): EINVAL for an unknown policy
abbrev pub schedule_answer : ℕ → Result ℕ ℕ
schedule_answer policy = if is_policy policy then Ok 0 else Err einval

-- sched_setattr(2): EPERM without CAP_SYS_NICE; then like sched_setscheduler(2)
abbrev pub attributes_effect : Bool → Creds → ℕ → Effect
attributes_effect newer creds policy = first_alone newer (Some cap_sys_nice) (with_cap cap_sys_nice creds (looks (schedule_answer policy)))

-- a call that makes sockets, and its value: EAFNOSUPPORT if the table lacks the family; then the call needs the family's capability
abbrev pub sockets_effect : ℕ → Bool → Creds → Option CallLine → Effect
sockets_effect value newer creds None = Refuse eafnosupport
sockets_effect value newer creds (Some line) = first_alone newer line.cap (with_cap_of line.cap creds (Answer value))

-- socket(2): its value is 3, the first descriptor after the three standard ones
abbrev pub socket_effect : Bool → Creds → Option CallLine → Effect
socket_effect newer creds line = sockets_effect 3 newer creds line

-- socketcall(2): SYS_SOCKET (1) is like socket(2). The other operations, from SYS_BIND (2) to SYS_SENDMMSG (20), succeed.
-- EINVAL for any other
abbrev pub socketcall_effect : Bool → Creds → ℕ → Option CallLine → Effect
socketcall_effect newer creds op line =
    if op == 1 then socket_effect newer creds line
    else if nat_le 2 op && nat_le op 20 then Answer 0
    else Refuse einval

-- AF_UNIX, address_families(7)
abbrev pub af_unix : ℕ
af_unix = 1

-- a family whose sockets do not come in pairs, if the table has it: EOPNOTSUPP
abbrev pub no_pair : Option CallLine → Effect
no_pair None = Refuse eafnosupport
no_pair (Some line) = Refuse eopnotsupp

-- socketpair(2): only sockets of AF_UNIX come in pairs, and its value is 0
abbrev pub socketpair_effect : Bool → Creds → ℕ → Option CallLine → Effect
socketpair_effect newer creds family line = if family == af_unix then sockets_effect 0 newer creds line else no_pair line

-- CLONE_THREAD: the child is a thread of the caller
abbrev pub thread_flag : ℕ
thread_flag = 0x1_0000

-- CLONE_NEWNS: a mount namespace of its own
abbrev pub newns : ℕ
newns = flag_of Mnt

-- CLONE_NEWUSER: a user namespace of its own
abbrev pub newuser : ℕ
newuser = flag_of User

-- the six other namespaces of namespaces(7): CLONE_NEWNS, CLONE_NEWCGROUP, CLONE_NEWUTS, CLONE_NEWIPC, CLONE_NEWPID and
-- CLONE_NEWNET
abbrev pub other_spaces : ℕ
other_spaces = 0x6e02_0000

-- the 25 bits that name no namespace
abbrev pub no_spaces : ℕ
no_spaces = 0x81fd_ffff

-- clone(2): threads are not modelled (EINVAL). A new user namespace is made first and gives the capability that other
-- namespaces need; without one, they need CAP_SYS_ADMIN
abbrev pub clone_effect : Creds → ℕ → Effect
clone_effect creds flags =
    if has_some thread_flag flags then Refuse einval
    else if has_some newuser flags then UserChild (has_some newns flags)
    else if has_some other_spaces flags then with_admin creds (Child (has_some newns flags))
    else Child false

-- unshare(2), of namespaces only: EINVAL for another flag; then like clone
abbrev pub unshare_effect : Creds → ℕ → Effect
unshare_effect creds flags =
    if has_some no_spaces flags then Refuse einval
    else if has_some newuser flags then OwnUser (has_some newns flags)
    else if has_some other_spaces flags then with_admin creds (if has_some newns flags then OwnTable else Answer 0)
    else Answer 0

-- PR_CAP_AMBIENT_IS_SET: EINVAL above the last capability; else 1 if the capability is ambient and 0 if not
abbrev pub is_set_effect : Creds → ℕ → Effect
is_set_effect creds cap = if nat_lt cap_last_cap cap then Refuse einval else Answer (if has creds.ambient cap then 1 else 0)

-- PR_CAP_AMBIENT, whose operations are PR_CAP_AMBIENT_IS_SET 1, PR_CAP_AMBIENT_RAISE 2, PR_CAP_AMBIENT_LOWER 3 and
-- PR_CAP_AMBIENT_CLEAR_ALL 4
abbrev pub ambient_effect : Creds → ℕ → ℕ → Effect
ambient_effect creds op cap =
    if op == 1 then is_set_effect creds cap
    else if op == 2 then creds_effect (after_raise creds cap)
    else if op == 3 then creds_effect (after_lower creds cap)
    else if op == 4 then SetCreds 0 (after_clear_ambient creds)
    else Refuse einval

-- PR_SET_NO_NEW_PRIVS: EINVAL for any value but 1
abbrev pub no_new_privs_effect : Creds → ℕ → Effect
no_new_privs_effect creds value = if value == 1 then SetCreds 0 (after_set_no_new_privs creds) else Refuse einval

-- PR_SET_KEEPCAPS: EINVAL for any value but 0 and 1
abbrev pub keepcaps_effect : Creds → ℕ → Effect
keepcaps_effect creds value = if nat_lt value 2 then SetCreds 0 (after_set_keepcaps creds (value == 1)) else Refuse einval

-- prctl(2): PR_SET_NO_NEW_PRIVS 38, PR_GET_NO_NEW_PRIVS 39, PR_SET_KEEPCAPS 8, PR_CAPBSET_DROP 24 and PR_CAP_AMBIENT 47; EINVAL
-- for any other option
abbrev pub prctl_effect : Creds → ℕ → ℕ → ℕ → Effect
prctl_effect creds option value third =
    if option == 38 then no_new_privs_effect creds value
    else if option == 39 then Answer (if creds.no_new_privs then 1 else 0)
    else if option == 8 then keepcaps_effect creds value
    else if option == 24 then creds_effect (after_drop_bounding creds value)
    else if option == 47 then ambient_effect creds value third
    else Refuse einval

-- PR_SET_MDWE, with its value and whether its further arguments are 0: EINVAL if they are not, and for any value but 0 and
-- PR_MDWE_REFUSE_EXEC_GAIN, which is 1. Nothing clears the mark: once it is set, 0 is EPERM
abbrev pub set_mdwe_effect : Creds → ℕ → Bool → Effect
set_mdwe_effect creds value alone =
    if not alone then Refuse einval
    else if value == 1 then SetCreds 0 (after_set_mdwe creds)
    else if value == 0 then (if creds.mdwe then Refuse eperm else Answer 0)
    else Refuse einval

-- prctl(2) of a host, with the operation and its four arguments: PR_SET_MDWE 65 and PR_GET_MDWE 66 if the host has them; else as above
abbrev pub prctl_effect_of : Bool → Creds → ℕ → ℕ → ℕ → ℕ → ℕ → Effect
prctl_effect_of mdwe creds option value third fourth fifth =
    if option == 65 && mdwe then set_mdwe_effect creds value ((third == 0 && fourth == 0) && fifth == 0)
    else if option == 66 && mdwe then Answer (if creds.mdwe then 1 else 0)
    else prctl_effect creds option value third

-- EINVAL if the bytes are no program; ENOMEM if the programs would be too long together, where each but the newest counts 4
-- instructions more
abbrev pub push_effect : List (List Insn) → Option (List Insn) → Effect
push_effect stack None = Refuse einval
push_effect stack (Some program) = if nat_le (room_of stack + length program) max_insns_per_path then Push program else Refuse enomem

-- seccomp(2): SECCOMP_SET_MODE_FILTER, which is 1, without flags (else EINVAL), with no_new_privs or CAP_SYS_ADMIN (else EACCES)
abbrev pub seccomp_effect : Creds → List (List Insn) → ℕ → ℕ → List ℕ → Effect
seccomp_effect creds stack op flags bytes =
    if not (op == 1 && flags == 0) then Refuse einval
    else if not (creds.no_new_privs || has creds.effective cap_sys_admin) then Refuse eacces
    else push_effect stack (program_of bytes)

-- a path is looked up, and what is there is seen
abbrev pub see_effect : Host → Caller → Path → Effect
see_effect host caller path = looks (see_answer 0 (finds host.rows (steps_of caller.table) path))

-- and opened, with these flags
abbrev pub open_effect : Host → Caller → ℕ → Path → Effect
open_effect host caller flags path =
    looks (open_answer flags (flags_at (steps_of caller.table) path) (finds host.rows (steps_of caller.table) path))

-- a socket of the family of this number is made
abbrev pub family_effect : Host → Caller → ℕ → Effect
family_effect host caller family = socket_effect caller.newer caller.creds (numbered family host.families)

-- io_uring_setup(2): EPERM if the host has no rings (sysctl kernel.io_uring_disabled). Its value is 3, like that of socket(2)
abbrev pub set_up_effect : Bool → Creds → Effect
set_up_effect rings creds = if rings then SetCreds 3 (after_set_up_ring creds) else Refuse eperm

-- a request to a ring is performed as statx(2), openat(2), socket(2) and mkdirat(2) are
abbrev pub request_effect : Host → Caller → Request → Effect
request_effect host caller (Stat path) = see_effect host caller path
request_effect host caller (AskOpen path flags) = open_effect host caller flags path
request_effect host caller (AskSocket family) = family_effect host caller family
request_effect host caller (Mode mode) = Answer 0

-- io_uring_enter(2): EBADF without a ring. The reply is the one that the kernel gives to the request
abbrev pub submit_effect : Host → Caller → Request → Effect
submit_effect host caller request = if caller.creds.ring then request_effect host caller request else Refuse ebadf

-- the effect of what a call asks for, once the caller's programs let the call through
abbrev pub effect_of : Host → Caller → Operation → Effect
effect_of host caller (See path) = see_effect host caller path
effect_of host caller (Open flags mode path) = open_effect host caller flags path
effect_of host caller (Create mode path) =
    looks (write_answer 3 (flags_at (steps_of caller.table) path) (finds host.rows (steps_of caller.table) path))
effect_of host caller (Truncate path) =
    looks (write_answer 0 (flags_at (steps_of caller.table) path) (finds host.rows (steps_of caller.table) path))
effect_of host caller (Execve path) =
    creds_effect (exec_answer_in caller.newer caller.creds (flags_at (steps_of caller.table) path)
    (finds host.rows (steps_of caller.table) path))
effect_of host caller (SetMode mode) = Answer 0
effect_of host caller (Map protection) = protect_effect caller.creds protection
effect_of host caller (Protect protection) = protect_effect caller.creds protection
effect_of host caller (Attach flags) = attach_effect caller.creds flags
effect_of host caller (Schedule policy) = looks (schedule_answer policy)
effect_of host caller (SetAttributes policy) = attributes_effect caller.newer caller.creds policy
effect_of host caller (Personality persona) = Answer 0
effect_of host caller (Socket family) = family_effect host caller family
effect_of host caller (Socketcall op family) = socketcall_effect caller.newer caller.creds op (numbered family host.families)
effect_of host caller (Socketpair family) = socketpair_effect caller.newer caller.creds family (numbered family host.families)
effect_of host caller Enter = Refuse ebadf
effect_of host caller Fork = Child false
effect_of host caller (Clone flags) = clone_effect caller.creds flags
effect_of host caller (Unshare flags) = unshare_effect caller.creds flags
effect_of host caller Exit = End
effect_of host caller (Mount source target flags) = with_own caller.owns
    (with_admin caller.creds (table_effect (after_mount host.rows caller.table source target flags)))
effect_of host caller (Umount path flags) = with_own caller.owns
    (with_admin caller.creds (table_effect (umount_answer caller.table path flags)))
effect_of host caller (Setuid id) = with_mapped caller.newer (creds_effect (after_setuid caller.creds id))
effect_of host caller (Setgid id) = with_mapped caller.newer (creds_effect (after_setgid caller.creds id))
effect_of host caller (Setresuid real effective saved) = with_mapped_ids caller.newer real effective saved
    (creds_effect (after_setresuid caller.creds real effective saved))
effect_of host caller (Setresgid real effective saved) = with_mapped_ids caller.newer real effective saved
    (creds_effect (after_setresgid caller.creds real effective saved))
effect_of host caller (Setgroups ids) = with_groups caller.newer (creds_effect (after_setgroups caller.creds ids))
effect_of host caller (Capset permitted effective inheritable) = creds_effect (after_capset caller.creds permitted effective inheritable)
effect_of host caller (Prctl option value third fourth fifth) = prctl_effect_of host.mdwe caller.creds option value third fourth fifth
effect_of host caller (Seccomp op flags bytes) = seccomp_effect caller.creds caller.stack op flags bytes
effect_of host caller SetUpRing = set_up_effect host.rings caller.creds
effect_of host caller (Submit request) = submit_effect host caller request
effect_of host caller (Plain cap) = first_alone caller.newer cap (with_cap_of cap caller.creds (Answer 0))
