-- Worlds that differ in the programs of the launch alone go on alike.
use Rattle.std.proofs.Common.{◌≡◌, ℕ, zero, suc, Bool, true, false, cond, List, [], ◌∷◌, ◌++◌, Option, Some, None, ◌⊎◌, inl, inr, refl, ap}
use Rattle.std.proofs.Common.{◌∙◌, sym, subst, length, arith, eqb}
use Rattle.std.specs.Prelude.{slice_get, slice_set, map, nat_lt, nat_le, ◌-◌, ◌+◌, ◌||◌, ◌&&◌, not}
use Rattle.std.specs.Option.{option_map, option_map_or}
use Rattle.kernel_laws.specs.call_table.Table.{Abi, abi_at}
use Rattle.kernel_laws.specs.kernel_model.Step as kernel
use Rattle.std.proofs.lemmas.Bool.Decides.{nat_tests}
use Rattle.std.proofs.lemmas.List.Sums.{sum_by-append}
use Rattle.kernel_laws.specs.bpf_code.declared.machine.Insn.{Insn}
use Rattle.kernel_laws.specs.bpf_code.declared.machine.CallData.{CallData}
use Rattle.kernel_laws.specs.bpf_code.declared.decision.Decision.{Decision}
use Rattle.kernel_laws.specs.bpf_code.declared.decision.Decision.TheVariants as decision
use Rattle.kernel_laws.specs.bpf_code.Meaning.{IsCallData}
use Rattle.kernel_laws.specs.bpf_code.ProgramOf.{program_of}
use Rattle.kernel_laws.specs.bpf_code.Stack.{answer_of, answers_of, decision_by, deciding, decision_on, room_of}
use Rattle.exec_settings.specs.cap_sets.Sets.{has}
use Rattle.kernel_laws.specs.kernel_model.declared.kernel_calls.call.Call.{Call}
use Rattle.kernel_laws.specs.kernel_model.kernel_calls.Calls.{IsCall}
use Rattle.kernel_laws.specs.kernel_model.kernel_calls.Operation as d
use Rattle.kernel_laws.specs.kernel_model.kernel_calls.Operation.{Operation, Asked, Lacking, Misformed, Does, asked_of}
use Rattle.kernel_laws.specs.kernel_model.Effects as f
use Rattle.kernel_laws.specs.kernel_model.Effects.{Effect, Caller, effect_of, push_effect, request_effect}
use Rattle.kernel_laws.specs.kernel_model.declared.kernel_calls.request.Request.{Request}
use Rattle.kernel_laws.specs.kernel_model.declared.kernel_calls.request.Request.TheVariants as ask
use Rattle.kernel_laws.specs.kernel_model.declared.reply.Reply.TheVariants as w
use Rattle.kernel_laws.specs.kernel_model.World.{World, living_of, process_of, if_alive, with_process, with_copy, with_child, moved_to}
use Rattle.kernel_laws.specs.kernel_model.World.{ended, mounts_of, host_of, with_user, entered_by, owner_of, is_newer}
use Rattle.kernel_laws.specs.kernel_model.declared.process.Process.{Process}
use Rattle.kernel_laws.specs.kernel_model.declared.reply.Reply.{Reply}
use Rattle.kernel_laws.specs.kernel_model.Step.{step, step_by, decided, answered, applied, child_of, data_of, child_in, moved_in}
use Rattle.kernel_laws.specs.kernel_model.Step.{has_user_left, decision_of}
use Rattle.launcher.specs.Alike.{AnswerAlike, over, above, IsFullInOne, SameReplies, AlikeReplies, AlikeRun, AlikeRuns, Pushes, FullByOwn}
use Rattle.launcher.specs.Alike.{RoomByBounds, HasWordArchs}
use Rattle.kernel_laws.specs.linux_numbers.Errnos.{eacces, eagain, ebadf, efault, einval, enomem, enospc, enosys, esrch}
use Rattle.kernel_laws.specs.linux_numbers.Limits.{max_insns_per_path}
use Rattle.kernel_laws.specs.linux_numbers.Capabilities.{cap_sys_admin}

-- ---- lists
get_map : {X Y : Type 0} (f : X → Y) (xs : List X) (i : ℕ) → slice_get (map f xs) i ≡ option_map f (slice_get xs i)
get_map f [] i = refl
get_map f (x ∷ xs) zero = refl
get_map f (x ∷ xs) (suc i) = get_map f xs i

set_map : {X Y : Type 0} (f : X → Y) (xs : List X) (i : ℕ) (x : X) → slice_set (map f xs) i (f x) ≡ map f (slice_set xs i x)
set_map f [] i x = refl
set_map f (y ∷ xs) zero x = refl
set_map f (y ∷ xs) (suc i) x = ap (λ ys. f y ∷ ys) (set_map f xs i x)

push_map : {X Y : Type 0} (f : X → Y) (xs : List X) (x : X) → map f xs ++ f x ∷ [] ≡ map f (xs ++ x ∷ [])
push_map f [] x = refl
push_map f (y ∷ xs) x = ap (λ ys. f y ∷ ys) (push_map f xs x)

length_map : {X Y : Type 0} (f : X → Y) (xs : List X) → length (map f xs) ≡ length xs
length_map f [] = refl
length_map f (x ∷ xs) = ap suc (length_map f xs)

append_assoc : {X : Type 0} (xs ys zs : List X) → (xs ++ ys) ++ zs ≡ xs ++ (ys ++ zs)
append_assoc [] ys zs = refl
append_assoc (x ∷ xs) ys zs = ap (λ vs. x ∷ vs) (append_assoc xs ys zs)

answers_append : (one own : List (List Insn)) (input : CallData)
    → answers_of (one ++ own) input ≡ answers_of one input ++ answers_of own input
answers_append [] own input = refl
answers_append (code ∷ one) own input = ap (λ (ns : List ℕ). answer_of code input ∷ ns) (answers_append one own input)

room_append : (one own : List (List Insn)) → room_of (one ++ own) ≡ room_of one + room_of own
room_append one own = sum_by-append (λ (code : List Insn). length code + 4) one own

-- ---- a step with programs below, said of the world without them
module _ (programs : List (List Insn)) where
  abbrev pub lifted : Reply × World → Reply × World
  lifted out = (out.0, above programs out.1)

  process_above : (world : World) (pid : ℕ) → process_of (above programs world) pid ≡ option_map (over programs) (process_of world pid)
  process_above world pid = by (eqb pid 0)
    where
      by : (b : Bool) → cond b None (slice_get (map (over programs) world.processes) (pid - 1))
          ≡ option_map (over programs) (cond b None (slice_get world.processes (pid - 1)))
      by true = refl
      by false = get_map (over programs) world.processes (pid - 1)

  alive_above : (o : Option Process) → if_alive (option_map (over programs) o) ≡ option_map (over programs) (if_alive o)
  alive_above None = refl
  alive_above (Some process) = by process.alive
    where
      by : (b : Bool) → cond b (Some (over programs process)) None ≡ option_map (over programs) (cond b (Some process) None)
      by true = refl
      by false = refl

  living_above : (world : World) (pid : ℕ) → living_of (above programs world) pid ≡ option_map (over programs) (living_of world pid)
  living_above world pid = ap if_alive (process_above world pid) ∙ alive_above (process_of world pid)

  put_above : (world : World) (pid : ℕ) (process : Process) → with_process (above programs world) pid (over programs process)
      ≡ above programs (with_process world pid process)
  put_above world pid process = ap (λ (ps : List Process). record world { processes = ps })
      (set_map (over programs) world.processes (pid - 1) process)

  child_above : (world : World) (process : Process) → with_child (above programs world) (over programs process)
      ≡ above programs (with_child world process)
  child_above world process = ap (λ (ps : List Process). record world { processes = ps }) (push_map (over programs) world.processes process)

  counted : (world : World) → length (map (over programs) world.processes) ≡ length world.processes
  counted world = length_map (over programs) world.processes

  born_in : (old world : World) (child : Process) (own : Bool)
      → child_in (above programs old) (above programs world) (over programs child) own ≡ lifted (child_in old world child own)
  born_in old world child false = ap (λ n. (w.Done (n + 1), with_child (above programs world) (over programs child))) (counted world)
      ∙ ap (λ (v : World). (w.Done (length world.processes + 1), v)) (child_above world child)
  born_in old world child true = by (nat_lt (length world.namespaces) 64)
    where
      by : (b : Bool) → cond {A = Reply × World} b (w.Done (length (map (over programs) world.processes) + 1), with_child (with_copy (above programs world) child.namespace child.user) (over programs (moved_to child (length world.namespaces)))) (w.Refused enospc, above programs old)
          ≡ lifted (cond {A = Reply × World} b (w.Done (length world.processes + 1), with_child (with_copy world child.namespace child.user) (moved_to child (length world.namespaces))) (w.Refused enospc, old))
      by true = ap (λ n. (w.Done (n + 1), with_child (with_copy (above programs world) child.namespace child.user) (over programs (moved_to child (length world.namespaces))))) (counted world)
          ∙ ap (λ (v : World). (w.Done (length world.processes + 1), v))
          (child_above (with_copy world child.namespace child.user) (moved_to child (length world.namespaces)))
      by false = refl

  moved_above : (old world : World) (pid : ℕ) (process : Process) (own : Bool)
      → moved_in (above programs old) (above programs world) pid (over programs process) own ≡ lifted (moved_in old world pid process own)
  moved_above old world pid process false = ap (λ (v : World). (w.Done 0, v)) (put_above world pid process)
  moved_above old world pid process true = by (nat_lt (length world.namespaces) 64)
    where
      by : (b : Bool) → cond {A = Reply × World} b (w.Done 0, with_process (with_copy (above programs world) process.namespace process.user) pid (over programs (moved_to process (length world.namespaces)))) (w.Refused enospc, above programs old)
          ≡ lifted (cond {A = Reply × World} b
          (w.Done 0, with_process (with_copy world process.namespace process.user) pid (moved_to process (length world.namespaces)))
          (w.Refused enospc, old))
      by true = ap (λ (v : World). (w.Done 0, v))
          (put_above (with_copy world process.namespace process.user) pid (moved_to process (length world.namespaces)))
      by false = refl

  born : (world : World) (process : Process) (own : Bool) → child_of (above programs world) (over programs process) own
      ≡ lifted (child_of world process own)
  born world process own = born_in world world process own

  applied_above : (world : World) (pid : ℕ) (process : Process) (effect : Effect)
      → applied (above programs world) pid (over programs process) effect ≡ lifted (applied world pid process effect)
  applied_above world pid process (f.Refuse errno) = refl
  applied_above world pid process (f.Answer value) = refl
  applied_above world pid process (f.SetCreds value creds) = ap (λ (v : World). (w.Done value, v))
      (put_above world pid (record process { creds = creds }))
  applied_above world pid process (f.SetTable table) = refl
  applied_above world pid process (f.Push program) =
      ap (λ (s : List (List Insn)). (w.Done 0, with_process (above programs world) pid (record process { stack = s })))
      (append_assoc programs process.stack (program ∷ []))
      ∙ ap (λ (v : World). (w.Done 0, v)) (put_above world pid (record process { stack = process.stack ++ program ∷ [] }))
  applied_above world pid process (f.Child own) =
      ap (λ n. cond {A = Reply × World} (nat_lt n 1024) (child_of (above programs world) (over programs process) own)
      (w.Refused eagain, above programs world)) (counted world)
      ∙ ap (λ (out : Reply × World). cond {A = Reply × World} (nat_lt (length world.processes) 1024) out
      (w.Refused eagain, above programs world)) (born world process own)
      ∙ by (nat_lt (length world.processes) 1024)
    where
      by : (b : Bool) → cond {A = Reply × World} b (lifted (child_of world process own)) (w.Refused eagain, above programs world)
          ≡ lifted (cond {A = Reply × World} b (child_of world process own) (w.Refused eagain, world))
      by true = refl
      by false = refl
  applied_above world pid process f.OwnTable = moved_above world world pid process true
  applied_above world pid process (f.UserChild own) =
      ap (λ n. cond {A = Reply × World} (has_user_left world)
      (cond {A = Reply × World} (nat_lt n 1024)
      (child_in (above programs world) (above programs (with_user world)) (over programs (entered_by process world.users)) own)
      (w.Refused eagain, above programs world)) (w.Refused enospc, above programs world)) (counted world)
      ∙ ap (λ (out : Reply × World). cond {A = Reply × World} (has_user_left world)
      (cond {A = Reply × World} (nat_lt (length world.processes) 1024) out (w.Refused eagain, above programs world))
      (w.Refused enospc, above programs world)) (born_in world (with_user world) (entered_by process world.users) own)
      ∙ by (has_user_left world) (nat_lt (length world.processes) 1024)
    where
      by : (a b : Bool) → cond {A = Reply × World} a
          (cond {A = Reply × World} b (lifted (child_in world (with_user world) (entered_by process world.users) own))
          (w.Refused eagain, above programs world)) (w.Refused enospc, above programs world)
          ≡ lifted (cond {A = Reply × World} a
          (cond {A = Reply × World} b (child_in world (with_user world) (entered_by process world.users) own)
          (w.Refused eagain, world)) (w.Refused enospc, world))
      by true true = refl
      by true false = refl
      by false b = refl
  applied_above world pid process (f.OwnUser own) =
      ap (λ (out : Reply × World). cond {A = Reply × World} (has_user_left world) out (w.Refused enospc, above programs world))
      (moved_above world (with_user world) pid (entered_by process world.users) own) ∙ by (has_user_left world)
    where
      by : (a : Bool) → cond {A = Reply × World} a (lifted (moved_in world (with_user world) pid (entered_by process world.users) own))
          (w.Refused enospc, above programs world)
          ≡ lifted (cond {A = Reply × World} a (moved_in world (with_user world) pid (entered_by process world.users) own)
          (w.Refused enospc, world))
      by true = refl
      by false = refl
  applied_above world pid process f.End = ap (λ (v : World). (w.Done 0, v)) (put_above world pid (ended process))

  -- the step, with the programs as an argument
  abbrev pub caller_over : World → Process → Caller
  caller_over world process = record { creds = process.creds; stack = programs ++ process.stack; table = mounts_of world process.namespace; newer = is_newer process; owns = eqb (owner_of world process.namespace) process.user }

  abbrev pub own_answered : World → ℕ → Process → Asked → Reply × World
  own_answered world pid process Lacking = (w.Refused enosys, world)
  own_answered world pid process Misformed = (w.Refused efault, world)
  own_answered world pid process (Does operation) = applied world pid process (effect_of (host_of world) (caller_over world process) operation)

  abbrev pub own_decided : World → Call → Process → Decision → Reply × World
  own_decided world call process decision.Pass = own_answered world call.pid process (asked_of world.calls call)
  own_decided world call process (decision.Errno errno) = (w.Refused errno, world)
  own_decided world call process decision.Kill = (w.Killed, with_process world call.pid (ended process))

  abbrev pub own_by : World → Call → Option Process → Reply × World
  own_by world call None = (w.Refused esrch, world)
  own_by world call (Some process) = own_decided world call process (decision_of world call (over programs process))

  abbrev pub own_step : World → Call → Reply × World
  own_step world call = own_by world call (living_of world call.pid)

  answered_above : (world : World) (pid : ℕ) (process : Process) (asked : Asked)
      → answered (above programs world) pid (over programs process) asked ≡ lifted (own_answered world pid process asked)
  answered_above world pid process Lacking = refl
  answered_above world pid process Misformed = refl
  answered_above world pid process (Does operation) = applied_above world pid process
      (effect_of (host_of world) (caller_over world process) operation)

  decided_above : (world : World) (call : Call) (process : Process) (c : Decision)
      → decided (above programs world) call (over programs process) c ≡ lifted (own_decided world call process c)
  decided_above world call process decision.Pass = answered_above world call.pid process (asked_of world.calls call)
  decided_above world call process (decision.Errno errno) = refl
  decided_above world call process decision.Kill = ap (λ (v : World). (w.Killed, v)) (put_above world call.pid (ended process))

  by_above : (world : World) (call : Call) (o : Option Process)
      → step_by (above programs world) call (option_map (over programs) o) ≡ lifted (own_by world call o)
  by_above world call None = refl
  by_above world call (Some process) = decided_above world call process (decision_of world call (over programs process))

  pub step_above : (world : World) (call : Call) → step (above programs world) call ≡ lifted (own_step world call)
  step_above world call = ap (step_by (above programs world) call) (living_above world call.pid)
      ∙ by_above world call (living_of world call.pid)

-- ---- two lists of programs
pub same_answers : (one other : List (List Insn)) (input : CallData) → AnswerAlike one other → IsCallData input
    → answers_of one input ≡ answers_of other input
same_answers [] [] input alike fit = refl
same_answers [] (own ∷ other) input alike fit = absurd alike
same_answers (code ∷ one) [] input alike fit = absurd alike
same_answers (code ∷ one) (own ∷ other) input alike fit =
    ap (λ n. n ∷ answers_of one input) (alike.0 input fit) ∙ ap (λ (ns : List ℕ). answer_of own input ∷ ns)
    (same_answers one other input alike.1 fit)

pub same_decision : (one other own : List (List Insn)) (input : CallData) → AnswerAlike one other → IsCallData input
    → decision_on (one ++ own) input ≡ decision_on (other ++ own) input
same_decision one other own input alike fit =
    ap (λ (ns : List ℕ). decision_by (deciding ns)) (answers_append one own input
    ∙ ap (λ (ns : List ℕ). ns ++ answers_of own input) (same_answers one other input alike fit) ∙ sym (answers_append other own input))

-- what stacks decide of a call, by its ABI
pub same_decided : (one other : List (List Insn)) (world : World) (call : Call) (process : Process) → AnswerAlike one other
    → IsCallData (data_of world call) → decision_of world call (over one process) ≡ decision_of world call (over other process)
same_decided one other world call process alike fit = by (abi_at world.calls call.abi) refl
  where
    by : (o : Option Abi) → abi_at world.calls call.abi ≡ o → kernel.decision_by call (over one process) o
        ≡ kernel.decision_by call (over other process) o
    by None e = refl
    by (Some abi) e =
        let input : CallData = record { nr = call.nr; arch = abi.arch; ip = 0; args = call.args } in
        let same : data_of world call ≡ input = ap (λ (o : Option Abi). record { nr = call.nr; arch = option_map_or (λ found. found.arch) o 0; ip = 0; args = call.args }) e in
        same_decision one other process.stack input alike (subst IsCallData same fit)

-- the call is full in one of two replies
pub record FullInOne (calls : _) (call : Call) (one other : Reply) : Type 0 where
  pub op : ℕ
  pub flags : ℕ
  pub bytes : List ℕ
  pub asks : asked_of calls call ≡ Does (d.Seccomp op flags bytes)
  pub replies : ((one ≡ w.Refused enomem) × (other ≡ w.Done 0)) ⊎ ((one ≡ w.Done 0) × (other ≡ w.Refused enomem))

module _ (one other : List (List Insn)) (world : World) (call : Call) where
  abbrev pub Outcome : Reply × World → Reply × World → Type 0
  Outcome x y = (x ≡ y) ⊎ FullInOne world.calls call x.0 y.0

  module _ (process : Process) where
    pushed_alike : (op flags : ℕ) (bytes : List ℕ) → asked_of world.calls call ≡ Does (d.Seccomp op flags bytes)
        → (code : List Insn) (b c : Bool)
        → Outcome (applied world call.pid process (cond b (f.Push code) (f.Refuse enomem)))
        (applied world call.pid process (cond c (f.Push code) (f.Refuse enomem)))
    pushed_alike op flags bytes asks code true true = inl refl
    pushed_alike op flags bytes asks code false false = inl refl
    pushed_alike op flags bytes asks code true false =
        inr (record { op = op; flags = flags; bytes = bytes; asks = asks; replies = inr (refl, refl) })
    pushed_alike op flags bytes asks code false true =
        inr (record { op = op; flags = flags; bytes = bytes; asks = asks; replies = inl (refl, refl) })

    read_alike : (op flags : ℕ) (bytes : List ℕ) → asked_of world.calls call ≡ Does (d.Seccomp op flags bytes)
        → (read : Option (List Insn))
        → Outcome (applied world call.pid process (push_effect (one ++ process.stack) read))
        (applied world call.pid process (push_effect (other ++ process.stack) read))
    read_alike op flags bytes asks None = inl refl
    read_alike op flags bytes asks (Some code) = pushed_alike op flags bytes asks code
        (nat_le (room_of (one ++ process.stack) + length code) max_insns_per_path)
        (nat_le (room_of (other ++ process.stack) + length code) max_insns_per_path)

    seccomp_alike : (op flags : ℕ) (bytes : List ℕ) → asked_of world.calls call ≡ Does (d.Seccomp op flags bytes)
        → (b c : Bool)
        → Outcome (applied world call.pid process
        (cond b (f.Refuse einval) (cond c (f.Refuse eacces) (push_effect (one ++ process.stack) (program_of bytes)))))
        (applied world call.pid process
        (cond b (f.Refuse einval) (cond c (f.Refuse eacces) (push_effect (other ++ process.stack) (program_of bytes)))))
    seccomp_alike op flags bytes asks true c = inl refl
    seccomp_alike op flags bytes asks false true = inl refl
    seccomp_alike op flags bytes asks false false = read_alike op flags bytes asks (program_of bytes)

    -- a request to a ring comes to the same
    request_alike : (request : Request) → request_effect (host_of world) (caller_over one world process) request
        ≡ request_effect (host_of world) (caller_over other world process) request
    request_alike (ask.Stat path) = refl
    request_alike (ask.Open path flags) = refl
    request_alike (ask.Socket family) = refl
    request_alike (ask.Mode mode) = refl

    operation_alike : (operation : Operation) → asked_of world.calls call ≡ Does operation
        → Outcome (applied world call.pid process (effect_of (host_of world) (caller_over one world process) operation))
        (applied world call.pid process (effect_of (host_of world) (caller_over other world process) operation))
    operation_alike (d.See path) asks = inl refl
    operation_alike (d.Open flags mode path) asks = inl refl
    operation_alike (d.Create mode path) asks = inl refl
    operation_alike (d.Truncate path) asks = inl refl
    operation_alike (d.Execve path) asks = inl refl
    operation_alike (d.SetMode mode) asks = inl refl
    operation_alike (d.Map protection) asks = inl refl
    operation_alike (d.Protect protection) asks = inl refl
    operation_alike (d.Attach flags) asks = inl refl
    operation_alike (d.Schedule policy) asks = inl refl
    operation_alike (d.Personality domain) asks = inl refl
    operation_alike (d.SetAttributes policy) asks = inl refl
    operation_alike (d.Socket family) asks = inl refl
    operation_alike (d.Socketcall op family) asks = inl refl
    operation_alike (d.Socketpair family) asks = inl refl
    operation_alike d.Enter asks = inl refl
    operation_alike d.Fork asks = inl refl
    operation_alike (d.Clone flags) asks = inl refl
    operation_alike (d.Unshare flags) asks = inl refl
    operation_alike d.Exit asks = inl refl
    operation_alike (d.Mount source target flags) asks = inl refl
    operation_alike (d.Umount path flags) asks = inl refl
    operation_alike (d.Setuid id) asks = inl refl
    operation_alike (d.Setgid id) asks = inl refl
    operation_alike (d.Setresuid r e s) asks = inl refl
    operation_alike (d.Setresgid r e s) asks = inl refl
    operation_alike (d.Setgroups ids) asks = inl refl
    operation_alike (d.Capset p e i) asks = inl refl
    operation_alike (d.Prctl option value third fourth fifth) asks = inl refl
    operation_alike (d.Seccomp op flags bytes) asks = seccomp_alike op flags bytes asks (not (eqb op 1 && eqb flags 0))
        (not (process.creds.no_new_privs || has process.creds.effective cap_sys_admin))
    operation_alike d.SetUpRing asks = inl refl
    operation_alike (d.Submit request) asks = inl (ap (λ effect. applied world call.pid process (cond process.creds.ring effect (f.Refuse ebadf)))
        (request_alike request))
    operation_alike (d.Plain cap) asks = inl refl

    asked_alike : (asked : Asked) → asked_of world.calls call ≡ asked
        → Outcome (own_answered one world call.pid process asked) (own_answered other world call.pid process asked)
    asked_alike Lacking asks = inl refl
    asked_alike Misformed asks = inl refl
    asked_alike (Does operation) asks = operation_alike operation asks

    decided_alike : (c : Decision) → Outcome (own_decided one world call process c) (own_decided other world call process c)
    decided_alike decision.Pass = asked_alike (asked_of world.calls call) refl
    decided_alike (decision.Errno errno) = inl refl
    decided_alike decision.Kill = inl refl

  by_alike : AnswerAlike one other → IsCallData (data_of world call) → (o : Option Process)
      → Outcome (own_by one world call o) (own_by other world call o)
  by_alike alike fit None = inl refl
  by_alike alike fit (Some process) =
      subst (λ (c : Decision). Outcome (own_by one world call (Some process)) (own_decided other world call process c))
      (same_decided one other world call process alike fit)
      (decided_alike process (decision_of world call (over one process)))

  pub own_alike : AnswerAlike one other → IsCallData (data_of world call) → Outcome (own_step one world call) (own_step other world call)
  own_alike alike fit = by_alike alike fit (living_of world call.pid)

pub fits : (world : World) (call : Call) → HasWordArchs world.calls → IsCall call → IsCallData (data_of world call)
fits world call arch fit = record { nr = fit.nr; arch = arch call.abi; ip = omega arith; count = fit.count; args = fit.args }

-- ---- lists of calls
-- the tables that the kernel was told stay
calls_child : (old world : World) (child : Process) (own : Bool) → world.calls ≡ old.calls
    → (child_in old world child own).1.calls ≡ old.calls
calls_child old world child false e = e
calls_child old world child true e = by (nat_lt (length world.namespaces) 64)
  where
    by : (b : Bool) → (cond {A = Reply × World} b (w.Done (length world.processes + 1), with_child (with_copy world child.namespace child.user) (moved_to child (length world.namespaces))) (w.Refused enospc, old)).1.calls ≡ old.calls
    by true = e
    by false = refl

calls_moved : (old world : World) (pid : ℕ) (process : Process) (own : Bool) → world.calls ≡ old.calls
    → (moved_in old world pid process own).1.calls ≡ old.calls
calls_moved old world pid process false e = e
calls_moved old world pid process true e = by (nat_lt (length world.namespaces) 64)
  where
    by : (b : Bool) → (cond {A = Reply × World} b
        (w.Done 0, with_process (with_copy world process.namespace process.user) pid (moved_to process (length world.namespaces)))
        (w.Refused enospc, old)).1.calls ≡ old.calls
    by true = e
    by false = refl

calls_applied : (world : World) (pid : ℕ) (process : Process) (effect : Effect) → (applied world pid process effect).1.calls ≡ world.calls
calls_applied world pid process (f.Refuse errno) = refl
calls_applied world pid process (f.Answer value) = refl
calls_applied world pid process (f.SetCreds value creds) = refl
calls_applied world pid process (f.SetTable table) = refl
calls_applied world pid process (f.Push program) = refl
calls_applied world pid process (f.Child own) = by (nat_lt (length world.processes) 1024)
  where
    by : (b : Bool) → (cond {A = Reply × World} b (child_of world process own) (w.Refused eagain, world)).1.calls ≡ world.calls
    by true = calls_child world world process own refl
    by false = refl
calls_applied world pid process f.OwnTable = calls_moved world world pid process true refl
calls_applied world pid process (f.UserChild own) = by (has_user_left world) (nat_lt (length world.processes) 1024)
  where
    by : (a b : Bool) → (cond {A = Reply × World} a
        (cond {A = Reply × World} b (child_in world (with_user world) (entered_by process world.users) own) (w.Refused eagain, world))
        (w.Refused enospc, world)).1.calls ≡ world.calls
    by true true = calls_child world (with_user world) (entered_by process world.users) own refl
    by true false = refl
    by false b = refl
calls_applied world pid process (f.OwnUser own) = by (has_user_left world)
  where
    by : (a : Bool) → (cond {A = Reply × World} a (moved_in world (with_user world) pid (entered_by process world.users) own)
        (w.Refused enospc, world)).1.calls ≡ world.calls
    by true = calls_moved world (with_user world) pid (entered_by process world.users) own refl
    by false = refl
calls_applied world pid process f.End = refl

calls_answered : (programs : List (List Insn)) (world : World) (pid : ℕ) (process : Process) (asked : Asked)
    → (own_answered programs world pid process asked).1.calls ≡ world.calls
calls_answered programs world pid process Lacking = refl
calls_answered programs world pid process Misformed = refl
calls_answered programs world pid process (Does operation) = calls_applied world pid process
    (effect_of (host_of world) (caller_over programs world process) operation)

calls_decided : (programs : List (List Insn)) (world : World) (call : Call) (process : Process) (c : Decision)
    → (own_decided programs world call process c).1.calls ≡ world.calls
calls_decided programs world call process decision.Pass = calls_answered programs world call.pid process (asked_of world.calls call)
calls_decided programs world call process (decision.Errno errno) = refl
calls_decided programs world call process decision.Kill = refl

calls_by : (programs : List (List Insn)) (world : World) (call : Call) (o : Option Process)
    → (own_by programs world call o).1.calls ≡ world.calls
calls_by programs world call None = refl
calls_by programs world call (Some process) = calls_decided programs world call process (decision_of world call (over programs process))

pub calls_kept : (programs : List (List Insn)) (world : World) (call : Call) → (own_step programs world call).1.calls ≡ world.calls
calls_kept programs world call = calls_by programs world call (living_of world call.pid)

pub alike_replies : AlikeReplies
alike_replies one other world [] alike arch fit = tt
alike_replies one other world (call ∷ calls) alike arch fit =
    by (own_alike one other world call alike (fits world call arch fit.0))
    (λ next arch'. alike_replies one other next calls alike arch' fit.1)
  where
    first : step (above one world) call ≡ lifted one (own_step one world call)
    first = step_above one world call

    second : step (above other world) call ≡ lifted other (own_step other world call)
    second = step_above other world call

    reply_first : (step (above one world) call).0 ≡ (own_step one world call).0
    reply_first = ap (λ (out : Reply × World). out.0) (step_above one world call)

    reply_second : (step (above other world) call).0 ≡ (own_step other world call).0
    reply_second = ap (λ (out : Reply × World). out.0) (step_above other world call)

    by : (own_step one world call ≡ own_step other world call) ⊎ FullInOne world.calls call (own_step one world call).0
        (own_step other world call).0
        → ((next : World) → HasWordArchs next.calls → SameReplies (above one next) (above other next) calls)
        → (((step (above one world) call).0 ≡ (step (above other world) call).0) × SameReplies (step (above one world) call).1
        (step (above other world) call).1 calls) ⊎ IsFullInOne (above one world) (above other world) call
    by (inl same) rest =
        let next : World = (own_step one world call).1 in
        let kept : HasWordArchs next.calls = subst HasWordArchs (sym (calls_kept one world call)) arch in
        let after : (step (above one world) call).1 ≡ above one next = ap (λ (out : Reply × World). out.1) (step_above one world call) in
        let after' : (step (above other world) call).1 ≡ above other next = ap (λ (out : Reply × World). out.1) (step_above other world call) ∙ ap (λ (out : Reply × World). above other out.1) (sym same) in
        inl (
          reply_first ∙ ap (λ (out : Reply × World). out.0) same ∙ sym reply_second,
          subst (λ (v : World). SameReplies v (step (above other world) call).1 calls) (sym after)
              (subst (λ (v : World). SameReplies (above one next) v calls) (sym after') (rest next kept)),
        )
    by (inr full) rest = inr (record
        { op = full.op; flags = full.flags; bytes = full.bytes; asks = full.asks; replies = by_replies full.replies })
      where
        by_replies : (((own_step one world call).0 ≡ w.Refused enomem) × ((own_step other world call).0 ≡ w.Done 0)) ⊎
            (((own_step one world call).0 ≡ w.Done 0) × ((own_step other world call).0 ≡ w.Refused enomem))
            → (((step (above one world) call).0 ≡ w.Refused enomem) × ((step (above other world) call).0 ≡ w.Done 0)) ⊎
            (((step (above one world) call).0 ≡ w.Done 0) × ((step (above other world) call).0 ≡ w.Refused enomem))
        by_replies (inl (a, b)) = inl (reply_first ∙ a, reply_second ∙ b)
        by_replies (inr (a, b)) = inr (reply_first ∙ a, reply_second ∙ b)

-- ---- when there is room
pushes_step : (programs : List (List Insn)) (world : World) (call : Call) (process : Process) (code : List Insn)
    → Pushes programs world call process code
    → (step (above programs world) call).0
    ≡ (applied world call.pid process
    (cond (nat_le (room_of (programs ++ process.stack) + length code) max_insns_per_path) (f.Push code) (f.Refuse enomem))).0
pushes_step programs world call process code p =
    ap (λ (out : Reply × World). out.0) (step_above programs world call)
    ∙ ap (λ (o : Option Process). (own_by programs world call o).0) p.lives
    ∙ ap (λ (c : Decision). (own_decided programs world call process c).0) p.passes
    ∙ ap (λ (a : Asked). (own_answered programs world call.pid process a).0) p.asks
    ∙ ap (λ (b : Bool). (applied world call.pid process
    (cond (not b) (f.Refuse eacces) (push_effect (programs ++ process.stack) (program_of p.bytes)))).0) p.may
    ∙ ap (λ (read : Option (List Insn)). (applied world call.pid process (push_effect (programs ++ process.stack) read)).0) p.read

pub full_by_own : FullByOwn
full_by_own programs world call process code p full =
    let room = room_append programs process.stack in
    let no : nat_le (room_of (programs ++ process.stack) + length code) max_insns_per_path ≡ false = grind (arith, nat_tests) in
    pushes_step programs world call process code p ∙ ap (λ b. (applied world call.pid process (cond b (f.Push code) (f.Refuse enomem))).0)
    no

pub room_by_bounds : RoomByBounds
room_by_bounds programs most world call process code p bound fit =
    let room = room_append programs process.stack in
    let yes : nat_le (room_of (programs ++ process.stack) + length code) max_insns_per_path ≡ true = grind (arith, nat_tests) in
    pushes_step programs world call process code p ∙ ap (λ b. (applied world call.pid process (cond b (f.Push code) (f.Refuse enomem))).0)
    yes

pub alike_runs : AlikeRuns
alike_runs one other base [] alike arch fit = tt
alike_runs one other base (call ∷ calls) alike arch fit =
    by (own_alike one other base call alike (fits base call arch fit.0)) (λ next arch'. alike_runs one other next calls alike arch' fit.1)
  where
    reply_first : (step (above one base) call).0 ≡ (own_step one base call).0
    reply_first = ap (λ (out : Reply × World). out.0) (step_above one base call)

    reply_second : (step (above other base) call).0 ≡ (own_step other base call).0
    reply_second = ap (λ (out : Reply × World). out.0) (step_above other base call)

    by : (own_step one base call ≡ own_step other base call) ⊎ FullInOne base.calls call (own_step one base call).0
        (own_step other base call).0
        → ((next : World) → HasWordArchs next.calls → AlikeRun one other next calls) → AlikeRun one other base (call ∷ calls)
    by (inl same) rest =
        inl (
          (own_step one base call).0,
          (own_step one base call).1,
          step_above one base call,
          step_above other base call ∙ ap (lifted other) (sym same),
          rest (own_step one base call).1 (subst HasWordArchs (sym (calls_kept one base call)) arch),
        )
    by (inr full) rest = inr (record
        { op = full.op; flags = full.flags; bytes = full.bytes; asks = full.asks; replies = by_replies full.replies })
      where
        by_replies : (((own_step one base call).0 ≡ w.Refused enomem) × ((own_step other base call).0 ≡ w.Done 0)) ⊎
            (((own_step one base call).0 ≡ w.Done 0) × ((own_step other base call).0 ≡ w.Refused enomem))
            → (((step (above one base) call).0 ≡ w.Refused enomem) × ((step (above other base) call).0 ≡ w.Done 0)) ⊎
            (((step (above one base) call).0 ≡ w.Done 0) × ((step (above other base) call).0 ≡ w.Refused enomem))
        by_replies (inl (a, b)) = inl (reply_first ∙ a, reply_second ∙ b)
        by_replies (inr (a, b)) = inr (reply_first ∙ a, reply_second ∙ b)
