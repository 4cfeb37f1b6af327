-- The calls that may need memory: those that make a process, a namespace, a mount, a program or a list of groups. seccomp,
-- setgroups and mount (unless it remounts) count as such calls even if their rules refuse them.
use Rattle.std.specs.Prelude.{ℕ, ◌&&◌, ◌||◌, not, nat_lt, Bool, true, false, length, Option, Some, None}
use Rattle.bpf_code.specs.declared.decision.Decision.{Decision}
use Rattle.bpf_code.specs.declared.decision.Decision.TheVariants as decision
use Rattle.kernel_model.specs.kern_files.Bits.{has_all}
use Rattle.kernel_model.specs.kern_files.MountCall.{ms_remount_bind}
use Rattle.kernel_model.specs.declared.kernel_calls.call.Call.{Call}
use Rattle.kernel_model.specs.kernel_calls.Operation.{Operation, Mount, Setgroups, Seccomp, Asked, Lacking, Misformed, Does, asked_of}
use Rattle.kernel_model.specs.declared.process.Process.{Process}
use Rattle.kernel_model.specs.Effects.{Effect, Refuse, Answer, SetCreds, SetTable, Push, Child, OwnTable, UserChild, OwnUser, End}
use Rattle.kernel_model.specs.Effects.{effect_of}
use Rattle.kernel_model.specs.World.{World, living_of, host_of, caller_of}
use Rattle.kernel_model.specs.Step.{most_processes, most_namespaces, has_user_left, decision_of}

-- the call asks for a mount, a program or a list of groups
abbrev pub asks_for_room : Operation → Bool
asks_for_room (Mount source target flags) = not (has_all ms_remount_bind flags)
asks_for_room (Setgroups ids) = true
asks_for_room (Seccomp op flags bytes) = true
asks_for_room operation = false

-- the effect makes a process or a mount namespace. There is room for it besides those that exist, and for a user namespace if
-- it makes one
abbrev pub makes_one : Bool → ℕ → ℕ → Effect → Bool
makes_one user processes namespaces (Child own) = nat_lt processes most_processes && (not own || nat_lt namespaces most_namespaces)
makes_one user processes namespaces OwnTable = nat_lt namespaces most_namespaces
makes_one user processes namespaces (UserChild own) = user &&
    (nat_lt processes most_processes && (not own || nat_lt namespaces most_namespaces))
makes_one user processes namespaces (OwnUser own) = user && (own && nat_lt namespaces most_namespaces)
makes_one user processes namespaces (Refuse errno) = false
makes_one user processes namespaces (Answer value) = false
makes_one user processes namespaces (SetCreds value creds) = false
makes_one user processes namespaces (SetTable table) = false
makes_one user processes namespaces (Push program) = false
makes_one user processes namespaces End = false

abbrev pub takes_operation : World → Process → Operation → Bool
takes_operation world process operation = asks_for_room operation || makes_one (has_user_left world) (length world.processes) (length world.namespaces)
    (effect_of (host_of world) (caller_of world process) operation)

abbrev pub takes_asked : World → Process → Asked → Bool
takes_asked world process Lacking = false
takes_asked world process Misformed = false
takes_asked world process (Does operation) = takes_operation world process operation

-- a call that the caller's programs do not let through needs no memory
abbrev pub takes_decided : World → Call → Process → Decision → Bool
takes_decided world call process decision.Pass = takes_asked world process (asked_of world.calls call)
takes_decided world call process (decision.Errno errno) = false
takes_decided world call process decision.Kill = false

abbrev pub takes_by : World → Call → Option Process → Bool
takes_by world call None = false
takes_by world call (Some process) = takes_decided world call process (decision_of world call process)

-- the call may need memory
abbrev pub takes_memory : World → Call → Bool
takes_memory world call = takes_by world call (living_of world call.pid)
