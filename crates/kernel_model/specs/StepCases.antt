-- The cases of a step: each reply, the world after it, and its reason.
use Rattle.std.specs.Prelude.{◌≡◌, ℕ, ◌+◌, ◌<◌, ◌≤◌, Bool, true, false, Some, None, [], ◌∷◌, ◌++◌, length, List}
use Rattle.bpf_code.specs.declared.machine.Insn.{Insn}
use Rattle.bpf_code.specs.declared.decision.Decision.TheVariants.{Pass, Errno, Kill}
use Rattle.kern_mounts.specs.linux_numbers.Errnos.{esrch, eagain, efault, enospc, enosys}
use Rattle.kern_creds.specs.declared.creds.Creds.{Creds}
use Rattle.kern_mounts.specs.Mounts.{Mounts as Table}
use Rattle.kernel_model.specs.declared.kernel_calls.call.Call.{Call}
use Rattle.kernel_model.specs.kernel_calls.Operation.{Operation, Lacking, Misformed, Does, asked_of}
use Rattle.kernel_model.specs.declared.reply.Reply.{Reply}
use Rattle.kernel_model.specs.declared.reply.Reply.TheVariants.{Done, Refused, Killed}
use Rattle.kernel_model.specs.declared.process.Process.{Process}
use Rattle.kernel_model.specs.Effects.{Effect, Refuse, Answer, SetCreds, SetTable, Push, Child, OwnTable, UserChild, OwnUser, End}
use Rattle.kernel_model.specs.Effects.{effect_of}
use Rattle.kernel_model.specs.World.{World, living_of, with_process, with_table, with_child, with_copy, with_user, entered_by, moved_to}
use Rattle.kernel_model.specs.World.{ended, host_of, caller_of}
use Rattle.kernel_model.specs.Step.{most_processes, most_namespaces, decision_of}

-- the caller lives, and its stack lets the call through
pub record Passes (world : World) (call : Call) (process : Process) : Type 0 where
  pub living : living_of world call.pid ≡ Some process
  pub passes : decision_of world call process ≡ Pass

-- the cases of an effect
pub data EffectCase (world : World) (pid : ℕ) (process : Process) : Effect → Reply × World → Type 0 where
  refuses : (errno : ℕ) → EffectCase world pid process (Refuse errno) (Refused errno, world)
  answers : (value : ℕ) → EffectCase world pid process (Answer value) (Done value, world)
  takes_creds : (value : ℕ) (creds : Creds) → EffectCase world pid process (SetCreds value creds)
      (Done value, with_process world pid (record process { creds = creds }))
  takes_table : (table : Table) → EffectCase world pid process (SetTable table) (Done 0, with_table world process.namespace table)
  takes_program : (program : List Insn) → EffectCase world pid process (Push program)
      (Done 0, with_process world pid (record process { stack = process.stack ++ program ∷ [] }))
  no_process_left : (own : Bool) → most_processes ≤ length world.processes
      → EffectCase world pid process (Child own) (Refused eagain, world)
  shares : length world.processes < most_processes → EffectCase world pid process (Child false)
      (Done (length world.processes + 1), with_child world process)
  no_namespace_for_child : length world.processes < most_processes → most_namespaces ≤ length world.namespaces
      → EffectCase world pid process (Child true) (Refused enospc, world)
  gives_copy : length world.processes < most_processes → length world.namespaces < most_namespaces → EffectCase world pid process (Child true) (Done (length world.processes + 1), with_child (with_copy world process.namespace process.user) (moved_to process (length world.namespaces)))
  no_namespace_left : most_namespaces ≤ length world.namespaces → EffectCase world pid process OwnTable (Refused enospc, world)
  moves : length world.namespaces < most_namespaces → EffectCase world pid process OwnTable
      (Done 0, with_process (with_copy world process.namespace process.user) pid (moved_to process (length world.namespaces)))
  no_user_for_child : (own : Bool) → world.site.user_namespaces ≤ world.users
      → EffectCase world pid process (UserChild own) (Refused enospc, world)
  no_process_for_user : (own : Bool) → world.users < world.site.user_namespaces → most_processes ≤ length world.processes
      → EffectCase world pid process (UserChild own) (Refused eagain, world)
  gives_user : world.users < world.site.user_namespaces → length world.processes < most_processes
      → EffectCase world pid process (UserChild false)
      (Done (length world.processes + 1), with_child (with_user world) (entered_by process world.users))
  no_namespace_for_user : world.users < world.site.user_namespaces → length world.processes < most_processes
      → most_namespaces ≤ length world.namespaces
      → EffectCase world pid process (UserChild true) (Refused enospc, world)
  gives_user_and_copy : world.users < world.site.user_namespaces → length world.processes < most_processes
      → length world.namespaces < most_namespaces
      → EffectCase world pid process (UserChild true) (Done (length world.processes + 1), with_child (with_copy (with_user world) process.namespace (world.users + 2)) (moved_to (entered_by process world.users) (length world.namespaces)))
  no_user_left : (own : Bool) → world.site.user_namespaces ≤ world.users
      → EffectCase world pid process (OwnUser own) (Refused enospc, world)
  enters : world.users < world.site.user_namespaces → EffectCase world pid process (OwnUser false)
      (Done 0, with_process (with_user world) pid (entered_by process world.users))
  no_namespace_behind_user : world.users < world.site.user_namespaces → most_namespaces ≤ length world.namespaces
      → EffectCase world pid process (OwnUser true) (Refused enospc, world)
  enters_and_moves : world.users < world.site.user_namespaces → length world.namespaces < most_namespaces
      → EffectCase world pid process (OwnUser true) (Done 0, with_process (with_copy (with_user world) process.namespace (world.users + 2)) pid (moved_to (entered_by process world.users) (length world.namespaces)))
  ends : EffectCase world pid process End (Done 0, with_process world pid (ended process))

-- the cases of a call. No living process makes it. The table lacks its ABI (ENOSYS), or the caller's stack refuses it. The
-- stack has the caller killed. The kernel lacks the call. Its payload does not have its form. Or it asks for something, and the
-- effect's case gives the result
pub data StepCase (world : World) (call : Call) : Reply × World → Type 0 where
  absent : living_of world call.pid ≡ None → StepCase world call (Refused esrch, world)
  filtered : (process : Process) (errno : ℕ) → living_of world call.pid ≡ Some process → decision_of world call process ≡ Errno errno
      → StepCase world call (Refused errno, world)
  killed : (process : Process) → living_of world call.pid ≡ Some process → decision_of world call process ≡ Kill
      → StepCase world call (Killed, with_process world call.pid (ended process))
  lacking : (process : Process) → Passes world call process → asked_of world.calls call ≡ Lacking
      → StepCase world call (Refused enosys, world)
  misformed : (process : Process) → Passes world call process → asked_of world.calls call ≡ Misformed
      → StepCase world call (Refused efault, world)
  does : (process : Process) (operation : Operation) (out : Reply × World) → Passes world call process → asked_of world.calls call ≡ Does operation
      → EffectCase world call.pid process (effect_of (host_of world) (caller_of world process) operation) out → StepCase world call out
