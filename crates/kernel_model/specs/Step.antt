-- One step: one call of one process, its reply, and the world after it.
use Rattle.std.specs.Prelude.{ℕ, ◌+◌, nat_lt, Bool, true, false, [], ◌∷◌, ◌++◌, length, Option, Some, None, if◌then◌else◌}
use Rattle.bpf_code.specs.declared.machine.CallData.{CallData}
use Rattle.bpf_code.specs.declared.decision.Decision.{Decision}
use Rattle.bpf_code.specs.declared.decision.Decision.TheVariants as decision
use Rattle.bpf_code.specs.Stack.{decision_on}
use Rattle.kern_mounts.specs.linux_numbers.Errnos.{esrch, eagain, efault, enospc, enosys}
use Rattle.call_table.specs.Table.{Abi, abi_at, arch_of}
use Rattle.kernel_model.specs.declared.kernel_calls.call.Call.{Call}
use Rattle.kernel_model.specs.kernel_calls.Operation.{Asked, Lacking, Misformed, Does, asked_of}
use Rattle.kernel_model.specs.declared.reply.Reply.{Reply}
use Rattle.kernel_model.specs.declared.reply.Reply.TheVariants.{Done, Refused, Killed}
use Rattle.kernel_model.specs.declared.process.Process.{Process}
use Rattle.kernel_model.specs.Effects.{Effect, Refuse, Answer, SetCreds, SetTable, Push, Child, OwnTable, UserChild, OwnUser, End}
use Rattle.kernel_model.specs.Effects.{effect_of}
use Rattle.kernel_model.specs.World.{World, living_of, with_process, with_table, with_child, with_copy, with_user, entered_by, moved_to}
use Rattle.kernel_model.specs.World.{ended, host_of, caller_of}

-- a world can make at most 1,024 processes, including ended ones
abbrev pub most_processes : ℕ
most_processes = 1024

-- a world can make at most 64 mount namespaces
abbrev pub most_namespaces : ℕ
most_namespaces = 64

-- fork(2): the child equals the caller and is in its namespace. clone(2) with CLONE_NEWNS: the child is in a namespace of its
-- own, with a copy of the caller's table; ENOSPC if no namespace is left. The value is the child's number
abbrev pub child_in : World → World → Process → Bool → Reply × World
child_in old world child false = (Done (length world.processes + 1), with_child world child)
child_in old world child true =
    if nat_lt (length world.namespaces) most_namespaces
    then (Done (length world.processes + 1), with_child (with_copy world child.namespace child.user) (moved_to child (length world.namespaces)))
    else (Refused enospc, old)

abbrev pub child_of : World → Process → Bool → Reply × World
child_of world process own = child_in world world process own

-- the process, moved to a mount namespace of its own if the call asks for that
abbrev pub moved_in : World → World → ℕ → Process → Bool → Reply × World
moved_in old world pid process false = (Done 0, with_process world pid process)
moved_in old world pid process true =
    if nat_lt (length world.namespaces) most_namespaces
    then (Done 0, with_process (with_copy world process.namespace process.user) pid (moved_to process (length world.namespaces)))
    else (Refused enospc, old)

-- one more user namespace may be made, user_namespaces(7)
abbrev pub has_user_left : World → Bool
has_user_left world = nat_lt world.users world.site.user_namespaces

-- the reply and the world after an effect: EAGAIN if no process is left, ENOSPC if no namespace is left. A refusal changes
-- nothing
abbrev pub applied : World → ℕ → Process → Effect → Reply × World
applied world pid process (Refuse errno) = (Refused errno, world)
applied world pid process (Answer value) = (Done value, world)
applied world pid process (SetCreds value creds) = (Done value, with_process world pid (record process { creds = creds }))
applied world pid process (SetTable table) = (Done 0, with_table world process.namespace table)
applied world pid process (Push program) = (Done 0, with_process world pid (record process { stack = process.stack ++ program ∷ [] }))
applied world pid process (Child own) = if nat_lt (length world.processes) most_processes then child_of world process own else
    (Refused eagain, world)
applied world pid process OwnTable = moved_in world world pid process true
applied world pid process (UserChild own) =
    if has_user_left world
    then (if nat_lt (length world.processes) most_processes then child_in world (with_user world)
    (entered_by process world.users) own else (Refused eagain, world))
    else (Refused enospc, world)
applied world pid process (OwnUser own) =
    if has_user_left world then moved_in world (with_user world) pid (entered_by process world.users) own else (Refused enospc, world)
applied world pid process End = (Done 0, with_process world pid (ended process))

-- ENOSYS if the kernel lacks the call, then EFAULT if the payload does not have its form; else the call's rule decides
abbrev pub answered : World → ℕ → Process → Asked → Reply × World
answered world pid process Lacking = (Refused enosys, world)
answered world pid process Misformed = (Refused efault, world)
answered world pid process (Does operation) = applied world pid process (effect_of (host_of world) (caller_of world process) operation)

-- the input of the stack of programs, struct seccomp_data of seccomp(2): the call's number, its ABI's architecture, no
-- instruction pointer, and the six words
abbrev pub data_of : World → Call → CallData
data_of world call = record { nr = call.nr; arch = arch_of world.calls call.abi; ip = 0; args = call.args }

-- ENOSYS if the table lacks the ABI; else the stack of programs decides
abbrev pub decision_by : Call → Process → Option Abi → Decision
decision_by call process None = decision.Errno enosys
decision_by call process (Some abi) = decision_on process.stack (record { nr = call.nr; arch = abi.arch; ip = 0; args = call.args })

abbrev pub decision_of : World → Call → Process → Decision
decision_of world call process = decision_by call process (abi_at world.calls call.abi)

-- the stack lets the call through, refuses it with an errno, or has the caller killed
abbrev pub decided : World → Call → Process → Decision → Reply × World
decided world call process decision.Pass = answered world call.pid process (asked_of world.calls call)
decided world call process (decision.Errno errno) = (Refused errno, world)
decided world call process decision.Kill = (Killed, with_process world call.pid (ended process))

-- ESRCH if no living process has the call's number
abbrev pub step_by : World → Call → Option Process → Reply × World
step_by world call None = (Refused esrch, world)
step_by world call (Some process) = decided world call process (decision_of world call process)

abbrev pub step : World → Call → Reply × World
step world call = step_by world call (living_of world call.pid)
