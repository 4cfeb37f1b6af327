-- The modelled kernels know some system calls by name, syscalls(2): a kernel has a rule for each, or lacks it.
use Rattle.std.specs.Prelude.{ℕ, Bool, List, [], ◌∷◌, codes, Option, Some, None, is_some}
use Rattle.std.specs.Map.{lookup}
use Rattle.std.specs.Str.{bytes_eq}
use Rattle.call_table.specs.declared.call_names.kernel.Kernel.{Kernel}
use Rattle.call_table.specs.declared.call_names.kernel.Kernel.TheVariants.{Base, Linux}
use Rattle.call_table.specs.declared.call_names.payload.PayloadForm.{PayloadForm}
use Rattle.call_table.specs.declared.call_names.payload.PayloadForm.TheVariants.{Nothing, OnePath, TwoPaths, PathFlags, Sets, Ids, Number, Program, Request}
use Rattle.call_table.specs.declared.call_names.known.KnownCall.{KnownCall}
use Rattle.call_table.specs.declared.call_names.known.KnownCall.TheVariants.{Modelled, Absent}
use Rattle.call_table.specs.declared.call_names.rule.Argument.{Argument}
use Rattle.call_table.specs.declared.call_names.rule.Argument.TheVariants.{Second, Third}
use Rattle.call_table.specs.declared.call_names.rule.CallRule.{CallRule}
use Rattle.call_table.specs.declared.call_names.rule.CallRule.TheVariants.{See, Open, OpenWith, Create, CreateWith, Truncate, Execve, SetMode, Map, Protect}
use Rattle.call_table.specs.declared.call_names.rule.CallRule.TheVariants.{Attach, Schedule, SetAttributes, Personality, Socket, Socketcall}
use Rattle.call_table.specs.declared.call_names.rule.CallRule.TheVariants.{Socketpair, Enter, Fork}
use Rattle.call_table.specs.declared.call_names.rule.CallRule.TheVariants.{Openat2, Clone, Clone3, Unshare, Exit, Mount, Umount, Setuid, Setgid, Setresuid}
use Rattle.call_table.specs.declared.call_names.rule.CallRule.TheVariants.{Setresgid, Setreuid, Setregid, Setgroups, Capset}
use Rattle.call_table.specs.declared.call_names.rule.CallRule.TheVariants.{Prctl, Seccomp, SetUpRing, Submit}

-- arguments are counted from 0
abbrev pub place_of : Argument → ℕ
place_of Second = 1
place_of Third = 2

-- the mode of open(2) and openat(2) follows their flags
abbrev pub mode_place_of : Argument → ℕ
mode_place_of Second = 2
mode_place_of Third = 3

-- each name that the base kernel knows, with its rule, or as a call that the kernel lacks
abbrev pub known_calls : List (List ℕ × KnownCall)
known_calls =
    (codes "stat", Modelled See) ∷
    (codes "lstat", Modelled See) ∷
    (codes "newfstatat", Modelled See) ∷
    (codes "statx", Modelled See) ∷
    (codes "access", Modelled See) ∷
    (codes "faccessat", Modelled See) ∷
    (codes "faccessat2", Modelled See) ∷
    (codes "open", Modelled (Open Second)) ∷
    (codes "openat", Modelled (Open Third)) ∷
    (codes "openat2", Absent) ∷
    (codes "creat", Modelled Create) ∷
    (codes "truncate", Modelled Truncate) ∷
    (codes "execve", Modelled Execve) ∷
    (codes "execveat", Absent) ∷
    (codes "chmod", Modelled (SetMode Second)) ∷
    (codes "fchmod", Modelled (SetMode Second)) ∷
    (codes "mkdir", Modelled (SetMode Second)) ∷
    (codes "mknod", Modelled (SetMode Second)) ∷
    (codes "fchmodat", Modelled (SetMode Third)) ∷
    (codes "fchmodat2", Absent) ∷
    (codes "mkdirat", Modelled (SetMode Third)) ∷
    (codes "mknodat", Modelled (SetMode Third)) ∷
    (codes "mmap", Modelled Map) ∷
    (codes "mprotect", Modelled Protect) ∷
    (codes "pkey_mprotect", Modelled Protect) ∷
    (codes "shmat", Modelled Attach) ∷
    (codes "sched_setscheduler", Modelled Schedule) ∷
    (codes "sched_setattr", Absent) ∷
    (codes "personality", Modelled Personality) ∷
    (codes "socket", Modelled Socket) ∷
    (codes "socketcall", Modelled Socketcall) ∷
    (codes "setns", Modelled Enter) ∷
    (codes "chroot", Absent) ∷
    (codes "pivot_root", Absent) ∷
    (codes "fork", Modelled Fork) ∷
    (codes "vfork", Modelled Fork) ∷
    (codes "clone", Modelled Clone) ∷
    (codes "clone3", Absent) ∷
    (codes "unshare", Modelled Unshare) ∷
    (codes "exit", Modelled Exit) ∷
    (codes "exit_group", Modelled Exit) ∷
    (codes "mount", Modelled Mount) ∷
    (codes "umount2", Modelled Umount) ∷
    (codes "fsopen", Absent) ∷
    (codes "fsconfig", Absent) ∷
    (codes "fsmount", Absent) ∷
    (codes "fspick", Absent) ∷
    (codes "open_tree", Absent) ∷
    (codes "move_mount", Absent) ∷
    (codes "mount_setattr", Absent) ∷
    (codes "setuid", Modelled Setuid) ∷
    (codes "setgid", Modelled Setgid) ∷
    (codes "setreuid", Absent) ∷
    (codes "setregid", Absent) ∷
    (codes "setresuid", Modelled Setresuid) ∷
    (codes "setresgid", Modelled Setresgid) ∷
    (codes "setfsuid", Absent) ∷
    (codes "setfsgid", Absent) ∷
    (codes "setgroups", Modelled Setgroups) ∷
    (codes "capset", Modelled Capset) ∷
    (codes "prctl", Modelled Prctl) ∷
    (codes "seccomp", Modelled Seccomp) ∷ []

-- what Linux has in place of the base kernel's entries of these names: open(2), openat(2) and creat(2) give the mode of a file that they
-- make, which the base kernel does not look at; openat2(2), execveat(2), clone3(2) and fchmodat2(2) are like open(2), execve(2), clone(2)
-- and fchmodat(2); sched_setattr(2) takes a policy, socketpair(2) makes two sockets, setreuid(2) and setregid(2) set the real and the
-- effective id, io_uring_setup(2) makes a ring, and io_uring_enter(2) submits requests to it
abbrev pub linux_calls : List (List ℕ × KnownCall)
linux_calls =
    (codes "open", Modelled (OpenWith Second)) ∷
    (codes "openat", Modelled (OpenWith Third)) ∷
    (codes "openat2", Modelled Openat2) ∷
    (codes "creat", Modelled CreateWith) ∷
    (codes "execveat", Modelled Execve) ∷
    (codes "clone3", Modelled Clone3) ∷
    (codes "fchmodat2", Modelled (SetMode Third)) ∷
    (codes "sched_setattr", Modelled SetAttributes) ∷
    (codes "socketpair", Modelled Socketpair) ∷
    (codes "setreuid", Modelled Setreuid) ∷
    (codes "setregid", Modelled Setregid) ∷
    (codes "io_uring_setup", Modelled SetUpRing) ∷
    (codes "io_uring_enter", Modelled Submit) ∷ []

-- the entry of a name in a kernel, given the entry that Linux has in place of the base kernel's, if there is one
abbrev pub entry_in : Option KnownCall → Kernel → Option KnownCall → Option KnownCall
entry_in None kernel base = base
entry_in (Some own) Base base = base
entry_in (Some own) Linux base = Some own

-- the entry of a name in this kernel, or nothing if the name is unknown
unfoldable pub known_call : Kernel → List ℕ → Option KnownCall
known_call kernel name = entry_in (lookup (bytes_eq name) linux_calls) kernel (lookup (bytes_eq name) known_calls)

-- this kernel has a rule for the call, or lacks it
abbrev pub is_known : Kernel → List ℕ → Bool
is_known kernel name = is_some (known_call kernel name)

-- the payload of a call of the rule
abbrev pub form_of : CallRule → PayloadForm
form_of See = OnePath
form_of (Open flags) = OnePath
form_of (OpenWith flags) = OnePath
form_of Create = OnePath
form_of CreateWith = OnePath
form_of Truncate = OnePath
form_of Execve = OnePath
form_of Umount = OnePath
form_of Mount = TwoPaths
form_of Openat2 = PathFlags
form_of Capset = Sets
form_of Setgroups = Ids
form_of Socketcall = Number
form_of SetAttributes = Number
form_of Clone3 = Number
form_of Seccomp = Program
form_of Submit = Request
form_of (SetMode mode) = Nothing
form_of Map = Nothing
form_of Protect = Nothing
form_of Attach = Nothing
form_of Schedule = Nothing
form_of Personality = Nothing
form_of Socket = Nothing
form_of Socketpair = Nothing
form_of Enter = Nothing
form_of Fork = Nothing
form_of Clone = Nothing
form_of Unshare = Nothing
form_of Exit = Nothing
form_of Setuid = Nothing
form_of Setgid = Nothing
form_of Setresuid = Nothing
form_of Setresgid = Nothing
form_of Setreuid = Nothing
form_of Setregid = Nothing
form_of Prctl = Nothing
form_of SetUpRing = Nothing
