-- The call that is made for a kind. Of the calls that the filters let through it is the first in an order of names (syscalls(2)), by the
-- native ABI before the other; without one, the first of the table.
use Rattle.std.specs.Prelude.{ℕ, Bool, false, codes, List, [], ◌∷◌, find, Option, None, option_and_then, unwrap_or}
use Rattle.std.specs.Option.{option_or, option_map_or}
use Rattle.ceilings.specs.call_table.declared.call_names.kernel.Kernel.TheVariants.{Base}
use Rattle.ceilings.specs.call_table.declared.listed.CallLine.{CallLine}
use Rattle.ceilings.specs.call_table.Lookups.{named}
use Rattle.ceilings.specs.call_table.Table.{calls_in, every_call}
use Rattle.ceilings.specs.kernel_model.declared.kernel_calls.call.Call.{Call}
use Rattle.ceilings.specs.kernel_model.declared.kernel_calls.payload.Payload.{Payload}
use Rattle.ceilings.specs.kernel_model.declared.kernel_calls.rule.Rule.{Rule}
use Rattle.ceilings.specs.kernel_model.declared.kernel_calls.rule.Rule.TheVariants.{Plain}
use Rattle.ceilings.specs.kernel_model.kernel_calls.Rules.{rule_of}
use Rattle.ceilings.specs.kernel_laws.Kinds.{no_words}
use Rattle.ceilings.specs.kernel_laws.Launched.{Launch, chosen_words, lets_line}
use Rattle.ceilings.specs.kernel_laws.declared.question_types.kind.CallKind.{CallKind}
use Rattle.ceilings.specs.kernel_laws.declared.question_types.kind.CallKind.TheVariants.{ForPath, PlainCall, ForFamily, ForNamespace}
use Rattle.ceilings.specs.kernel_laws.declared.question_types.kind.CallKind.TheVariants.{MapsWx, ProtectsX, AttachesX, AttachesReadOnlyX, SchedulesRealtime}
use Rattle.ceilings.specs.kernel_laws.declared.question_types.kind.CallKind.TheVariants.{SetsRealtime, TakesPersonality, SetsMode, OpensMode, CreatesMode}
use Rattle.ceilings.specs.kernel_laws.declared.question_types.kind.CallKind.TheVariants.{ChangesMounts, RemovesMounts, SetsCaps, TakesUid, TakesGid, SetsUpRing, Submits}
use Rattle.ceilings.specs.kernel_laws.declared.question_types.wish.Wish.TheVariants.{See as ToSee, Read as ToRead, Write as ToWrite}
use Rattle.ceilings.specs.kernel_laws.declared.question_types.wish.Wish.TheVariants.{Exec as ToExec}

-- the names of the calls of a kind, in the order in which they are tried. socketcall(2), with which 32-bit programs make
-- sockets, is tried after socket(2) of every ABI, as the first of the table
abbrev pub names_of : CallKind → List (List ℕ)
names_of (ForPath ToSee) = codes "stat" ∷ codes "lstat" ∷ codes "newfstatat" ∷ codes "statx" ∷ codes "access" ∷ codes "faccessat" ∷ codes
    "faccessat2" ∷ []
names_of (ForPath ToRead) = codes "open" ∷ codes "openat" ∷ []
names_of (ForPath ToWrite) = codes "open" ∷ codes "openat" ∷ codes "creat" ∷ codes "truncate" ∷ []
names_of (ForPath ToExec) = codes "execve" ∷ []
names_of PlainCall = []
names_of (ForFamily family) = codes "socket" ∷ []
names_of (ForNamespace space) = codes "unshare" ∷ codes "clone" ∷ []
names_of MapsWx = codes "mmap" ∷ []
names_of ProtectsX = codes "mprotect" ∷ codes "pkey_mprotect" ∷ []
names_of AttachesX = codes "shmat" ∷ []
names_of AttachesReadOnlyX = codes "shmat" ∷ []
names_of SchedulesRealtime = codes "sched_setscheduler" ∷ []
names_of SetsRealtime = codes "sched_setattr" ∷ []
names_of TakesPersonality = codes "personality" ∷ []
names_of SetsMode = codes "chmod" ∷ codes "fchmod" ∷ codes "fchmodat" ∷ codes "mkdir" ∷ codes "mkdirat" ∷ codes "mknod" ∷ codes "mknodat"
    ∷ []
names_of OpensMode = codes "open" ∷ codes "openat" ∷ []
names_of CreatesMode = codes "creat" ∷ []
names_of ChangesMounts = codes "mount" ∷ []
names_of RemovesMounts = codes "umount2" ∷ []
names_of SetsCaps = codes "capset" ∷ []
names_of TakesUid = codes "setuid" ∷ codes "setresuid" ∷ []
names_of TakesGid = codes "setgid" ∷ codes "setresgid" ∷ codes "setgroups" ∷ []
names_of SetsUpRing = codes "io_uring_setup" ∷ []
names_of Submits = codes "io_uring_enter" ∷ []

-- the ABI has a call of the name that asks for the kind, and the filters let it through
abbrev pub lets_name : Launch → CallKind → ℕ → List ℕ → Bool
lets_name launch kind abi name = option_map_or (lets_line launch kind) (named name (calls_in launch.calls abi)) false

-- the line of the first such name
abbrev pub line_in : Launch → CallKind → ℕ → Option CallLine
line_in launch kind abi = option_and_then (λ name. named name (calls_in launch.calls abi))
    (find (lets_name launch kind abi) (names_of kind))

-- the native ABI's line, else the second ABI's, else the first line of the table that the filters let through
abbrev pub first_line : Launch → CallKind → Option CallLine
first_line launch kind = option_or (line_in launch kind 0)
    (option_or (line_in launch kind 1) (find (lets_line launch kind) (every_call launch.calls)))

-- a line of no table
abbrev pub no_line : CallLine
no_line = record { name = []; abi = 0; number = 0; cap = None; kernel = Base }

-- that line, where there is one
unfoldable pub line_of : Launch → CallKind → CallLine
line_of launch kind = unwrap_or (first_line launch kind) no_line

-- the words with which the call of a line asks for the kind
abbrev pub args_of : Launch → CallKind → CallLine → List ℕ
args_of launch kind line = unwrap_or (option_and_then (chosen_words launch kind line.abi line.number) (rule_of line)) no_words

-- the rule of its call
abbrev pub own_rule : CallLine → Rule
own_rule line = unwrap_or (rule_of line) (Plain None)

-- the first call of a kind, by process 1, with the words that ask for it
abbrev pub call_by : Launch → CallKind → Payload → Call
call_by launch kind payload = record { pid = 1; abi = (line_of launch kind).abi; nr = (line_of launch kind).number; args = args_of launch kind (line_of launch kind); payload = payload }
