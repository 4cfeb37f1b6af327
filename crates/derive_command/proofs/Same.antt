-- A call that is let through comes to the same whatever the programs of the launch are, and one reply comes of one outcome.
use Rattle.std.proofs.Common.{◌≡◌, ℕ, Bool, true, false, cond, List, [], ◌∷◌, ◌++◌, Option, Some, None, ◌⊎◌, inl, inr, refl, ap, ◌∙◌, sym}
use Rattle.std.proofs.Common.{subst, length}
use Rattle.std.specs.Prelude.{nat_lt, ◌+◌}
use Rattle.asked_service.specs.bpf_code.declared.machine.Insn.{Insn}
use Rattle.asked_service.specs.bpf_code.declared.machine.CallData.{CallData}
use Rattle.asked_service.specs.bpf_code.declared.decision.Decision.{Decision}
use Rattle.asked_service.specs.bpf_code.declared.decision.Decision.TheVariants as decision
use Rattle.asked_service.specs.bpf_code.Meaning.{IsCallData}
use Rattle.asked_service.specs.bpf_code.Stack.{answer_of, answers_of, decision_by, deciding, decision_on}
use Rattle.asked_service.specs.call_table.Table.{Abi, abi_at}
use Rattle.asked_service.specs.kernel_model.declared.kernel_calls.call.Call.{Call}
use Rattle.asked_service.specs.kernel_model.kernel_calls.Operation as d
use Rattle.asked_service.specs.kernel_model.kernel_calls.Operation.{Operation, Asked, Lacking, Misformed, Does, asked_of}
use Rattle.asked_service.specs.kernel_model.Effects as f
use Rattle.asked_service.specs.kernel_model.Effects.{Effect, effect_of, request_effect}
use Rattle.asked_service.specs.kernel_model.declared.kernel_calls.request.Request.{Request}
use Rattle.asked_service.specs.kernel_model.declared.kernel_calls.request.Request.TheVariants as ask
use Rattle.asked_service.specs.kernel_model.Runs.{IsDone}
use Rattle.asked_service.specs.kernel_model.Step as kernel
use Rattle.asked_service.specs.kernel_model.Step.{applied, child_in, child_of, data_of, decision_of, has_user_left, moved_in}
use Rattle.asked_service.specs.kernel_model.World.{World, entered_by, host_of, living_of, moved_to, with_child, with_copy, with_process}
use Rattle.asked_service.specs.kernel_model.World.{with_user}
use Rattle.asked_service.specs.kernel_model.declared.process.Process.{Process}
use Rattle.asked_service.specs.kernel_model.declared.reply.Reply.{Reply}
use Rattle.asked_service.specs.kernel_model.declared.reply.Reply.TheVariants as w
use Rattle.asked_service.specs.launcher.Alike.{over}
use Rattle.asked_service.proofs.OfLauncher.Alike.{caller_over, own_answered, own_by, own_decided, own_step}
use Rattle.asked_service.specs.linux_numbers.Errnos.{eagain, ebadf, enospc}
use Rattle.std.specs.Option.{option_map_or}
use Rattle.derive_command.specs.trace_profile.allow_laws.Either.{AnswerSame, AnswersAsEither, PushesNone}

-- what a call that is let through comes to: a refusal with the world as it was, or a value
data Shape (world : World) : Reply × World → Type 0 where
  refused : (errno : ℕ) → Shape world (w.Refused errno, world)
  done : (value : ℕ) (after : World) → Shape world (w.Done value, after)

shape_child : (old world : World) (child : Process) (own : Bool) → Shape old (child_in old world child own)
shape_child old world child false = done _ _
shape_child old world child true = by (nat_lt (length world.namespaces) 64)
  where
    by : (b : Bool) → Shape old (cond {A = Reply × World} b (w.Done (length world.processes + 1), with_child (with_copy world child.namespace child.user) (moved_to child (length world.namespaces))) (w.Refused enospc, old))
    by true = done _ _
    by false = refused _

shape_moved : (old world : World) (pid : ℕ) (process : Process) (own : Bool) → Shape old (moved_in old world pid process own)
shape_moved old world pid process false = done _ _
shape_moved old world pid process true = by (nat_lt (length world.namespaces) 64)
  where
    by : (b : Bool) → Shape old
        (cond {A = Reply × World} b
        (w.Done 0, with_process (with_copy world process.namespace process.user) pid (moved_to process (length world.namespaces)))
        (w.Refused enospc, old))
    by true = done _ _
    by false = refused _

shape_applied : (world : World) (pid : ℕ) (process : Process) (effect : Effect) → Shape world (applied world pid process effect)
shape_applied world pid process (f.Refuse errno) = refused errno
shape_applied world pid process (f.Answer value) = done _ _
shape_applied world pid process (f.SetCreds value creds) = done _ _
shape_applied world pid process (f.SetTable table) = done _ _
shape_applied world pid process (f.Push program) = done _ _
shape_applied world pid process (f.Child own) = by (nat_lt (length world.processes) 1024)
  where
    by : (b : Bool) → Shape world (cond {A = Reply × World} b (child_of world process own) (w.Refused eagain, world))
    by true = shape_child world world process own
    by false = refused _
shape_applied world pid process f.OwnTable = shape_moved world world pid process true
shape_applied world pid process (f.UserChild own) = by (has_user_left world) (nat_lt (length world.processes) 1024)
  where
    by : (a b : Bool) → Shape world
        (cond {A = Reply × World} a
        (cond {A = Reply × World} b (child_in world (with_user world) (entered_by process world.users) own) (w.Refused eagain, world))
        (w.Refused enospc, world))
    by true true = shape_child world (with_user world) (entered_by process world.users) own
    by true false = refused _
    by false b = refused _
shape_applied world pid process (f.OwnUser own) = by (has_user_left world)
  where
    by : (a : Bool) → Shape world
        (cond {A = Reply × World} a (moved_in world (with_user world) pid (entered_by process world.users) own) (w.Refused enospc, world))
    by true = shape_moved world (with_user world) pid (entered_by process world.users) own
    by false = refused _
shape_applied world pid process f.End = done _ _

shape_answered : (programs : List (List Insn)) (world : World) (pid : ℕ) (process : Process) (asked : Asked)
    → Shape world (own_answered programs world pid process asked)
shape_answered programs world pid process Lacking = refused _
shape_answered programs world pid process Misformed = refused _
shape_answered programs world pid process (Does operation) = shape_applied world pid process
    (effect_of (host_of world) (caller_over programs world process) operation)

same_errno : (world : World) (out : Reply × World) → Shape world out → (errno : ℕ) → out.0 ≡ w.Refused errno
    → out ≡ (w.Refused errno, world)
same_errno world out (refused own) errno e = ap (λ (r : Reply). (r, world)) e
same_errno world out (done value after) errno e = cc

not_killed : (world : World) (out : Reply × World) → Shape world out → out.0 ≡ w.Killed → ⊥
not_killed world out (refused own) e = cc
not_killed world out (done value after) e = cc

-- lists that answer a call alike, below whatever else there is
same_over : (input : CallData) (one other own : List (List Insn)) → AnswerSame input one other
    → answers_of (one ++ own) input ≡ answers_of (other ++ own) input
same_over input [] [] own same = refl
same_over input [] (y ∷ other) own same = absurd same
same_over input (x ∷ one) [] own same = absurd same
same_over input (x ∷ one) (y ∷ other) own same =
    ap (λ n. n ∷ answers_of (one ++ own) input) same.0 ∙ ap (λ (ns : List ℕ). answer_of y input ∷ ns) (same_over input one other own same.1)

same_alone : (input : CallData) (one other : List (List Insn)) → AnswerSame input one other → answers_of one input ≡ answers_of other input
same_alone input [] [] same = refl
same_alone input [] (y ∷ other) same = absurd same
same_alone input (x ∷ one) [] same = absurd same
same_alone input (x ∷ one) (y ∷ other) same =
    ap (λ n. n ∷ answers_of one input) same.0 ∙ ap (λ (ns : List ℕ). answer_of y input ∷ ns) (same_alone input one other same.1)

pub same_decision : (input : CallData) (one other : List (List Insn)) → AnswerSame input one other
    → decision_on one input ≡ decision_on other input
same_decision input one other same = ap (λ (ns : List ℕ). decision_by (deciding ns)) (same_alone input one other same)

module _ (one other : List (List Insn)) (world : World) (call : Call) (nothing : PushesNone world.calls call) where
  module _ (process : Process) where
    -- a request to a ring comes to the same
    request_same : (request : Request) → request_effect (host_of world) (caller_over one world process) request
        ≡ request_effect (host_of world) (caller_over other world process) request
    request_same (ask.Stat path) = refl
    request_same (ask.Open path flags) = refl
    request_same (ask.Socket family) = refl
    request_same (ask.Mode mode) = refl

    operation_same : (operation : Operation) → asked_of world.calls call ≡ Does operation
        → applied world call.pid process (effect_of (host_of world) (caller_over one world process) operation)
        ≡ applied world call.pid process (effect_of (host_of world) (caller_over other world process) operation)
    operation_same (d.See path) asks = refl
    operation_same (d.Open flags mode path) asks = refl
    operation_same (d.Create mode path) asks = refl
    operation_same (d.Truncate path) asks = refl
    operation_same (d.Execve path) asks = refl
    operation_same (d.SetMode mode) asks = refl
    operation_same (d.Map protection) asks = refl
    operation_same (d.Protect protection) asks = refl
    operation_same (d.Attach flags) asks = refl
    operation_same (d.Schedule policy) asks = refl
    operation_same (d.Personality domain) asks = refl
    operation_same (d.SetAttributes policy) asks = refl
    operation_same (d.Socket family) asks = refl
    operation_same (d.Socketcall op family) asks = refl
    operation_same (d.Socketpair family) asks = refl
    operation_same d.Enter asks = refl
    operation_same d.Fork asks = refl
    operation_same (d.Clone flags) asks = refl
    operation_same (d.Unshare flags) asks = refl
    operation_same d.Exit asks = refl
    operation_same (d.Mount source target flags) asks = refl
    operation_same (d.Umount path flags) asks = refl
    operation_same (d.Setuid id) asks = refl
    operation_same (d.Setgid id) asks = refl
    operation_same (d.Setresuid r e s) asks = refl
    operation_same (d.Setresgid r e s) asks = refl
    operation_same (d.Setgroups ids) asks = refl
    operation_same (d.Capset p e i) asks = refl
    operation_same (d.Prctl option value third fourth fifth) asks = refl
    operation_same (d.Seccomp op flags bytes) asks = absurd (nothing op flags bytes asks)
    operation_same d.SetUpRing asks = refl
    operation_same (d.Submit request) asks = ap (λ effect. applied world call.pid process (cond process.creds.ring effect (f.Refuse ebadf)))
        (request_same request)
    operation_same (d.Plain cap) asks = refl

    asked_same : (asked : Asked) → asked_of world.calls call ≡ asked
        → own_answered one world call.pid process asked ≡ own_answered other world call.pid process asked
    asked_same Lacking asks = refl
    asked_same Misformed asks = refl
    asked_same (Does operation) asks = operation_same operation asks

    -- one decision gives one outcome
    pub by_decision : (c : Decision) → own_decided one world call process c ≡ own_decided other world call process c
    by_decision decision.Pass = asked_same (asked_of world.calls call) refl
    by_decision (decision.Errno errno) = refl
    by_decision decision.Kill = refl

    -- one reply gives one outcome, whatever the decisions
    by_reply : (c e : Decision) → (own_decided one world call process c).0 ≡ (own_decided other world call process e).0
        → own_decided one world call process c ≡ own_decided other world call process e
    by_reply decision.Pass decision.Pass same = by_decision decision.Pass
    by_reply decision.Pass (decision.Errno errno) same = same_errno world _
        (shape_answered one world call.pid process (asked_of world.calls call)) errno same
    by_reply decision.Pass decision.Kill same =
        absurd (not_killed world _ (shape_answered one world call.pid process (asked_of world.calls call)) same)
    by_reply (decision.Errno errno) decision.Pass same = sym
        (same_errno world _ (shape_answered other world call.pid process (asked_of world.calls call)) errno (sym same))
    by_reply (decision.Errno errno) (decision.Errno own) same = ap (λ (r : Reply). (r, world)) same
    by_reply (decision.Errno errno) decision.Kill same = cc
    by_reply decision.Kill decision.Pass same =
        absurd (not_killed world _ (shape_answered other world call.pid process (asked_of world.calls call)) (sym same))
    by_reply decision.Kill (decision.Errno errno) same = cc
    by_reply decision.Kill decision.Kill same = refl

    -- two that are done are one
    by_done : (c e : Decision) → IsDone (own_decided one world call process c).0 → IsDone (own_decided other world call process e).0
        → own_decided one world call process c ≡ own_decided other world call process e
    by_done decision.Pass decision.Pass did does = by_decision decision.Pass
    by_done decision.Pass (decision.Errno errno) did does = absurd does
    by_done decision.Pass decision.Kill did does = absurd does
    by_done (decision.Errno errno) e did does = absurd did
    by_done decision.Kill e did does = absurd did

  reply_by : (o : Option Process) → (own_by one world call o).0 ≡ (own_by other world call o).0
      → own_by one world call o ≡ own_by other world call o
  reply_by None same = refl
  reply_by (Some process) same = by_reply process _ _ same

  pub same_reply : (own_step one world call).0 ≡ (own_step other world call).0 → own_step one world call ≡ own_step other world call
  same_reply same = reply_by (living_of world call.pid) same

  done_by : (o : Option Process) → IsDone (own_by one world call o).0 → IsDone (own_by other world call o).0
      → own_by one world call o ≡ own_by other world call o
  done_by None did does = refl
  done_by (Some process) did does = by_done process _ _ did does

  pub both_done : IsDone (own_step one world call).0 → IsDone (own_step other world call).0
      → own_step one world call ≡ own_step other world call
  both_done did does = done_by (living_of world call.pid) did does

-- the one of the two that decides as the first list
module _ (both one other : List (List Insn)) (world : World) (call : Call) (nothing : PushesNone world.calls call) (like : AnswersAsEither both one other) (fit : IsCallData (data_of world call)) where
  decides : (process : Process) → (decision_of world call (over both process) ≡ decision_of world call (over one process)) ⊎
      (decision_of world call (over both process) ≡ decision_of world call (over other process))
  decides process = by (abi_at world.calls call.abi) refl
    where
      P : Option Abi → List (List Insn) → Type 0
      P o list = kernel.decision_by call (over both process) o ≡ kernel.decision_by call (over list process) o

      input_of : Abi → CallData
      input_of abi = record { nr = call.nr; arch = abi.arch; ip = 0; args = call.args }

      by_like : (abi : Abi) → AnswerSame (input_of abi) both one ⊎ AnswerSame (input_of abi) both other
          → P (Some abi) one ⊎ P (Some abi) other
      by_like abi (inl same) = inl (ap (λ (ns : List ℕ). decision_by (deciding ns)) (same_over (input_of abi) both one process.stack same))
      by_like abi (inr same) = inr
          (ap (λ (ns : List ℕ). decision_by (deciding ns)) (same_over (input_of abi) both other process.stack same))

      by : (o : Option Abi) → abi_at world.calls call.abi ≡ o → P o one ⊎ P o other
      by None e = inl refl
      by (Some abi) e =
          let same : data_of world call ≡ input_of abi = ap (λ (o : Option Abi). record { nr = call.nr; arch = option_map_or (λ found. found.arch) o 0; ip = 0; args = call.args }) e in
          by_like abi (like (input_of abi) (subst IsCallData same fit))

  either_by : (o : Option Process) → (own_by both world call o ≡ own_by one world call o) ⊎
      (own_by both world call o ≡ own_by other world call o)
  either_by None = inl refl
  either_by (Some process) = by (decides process)
    where
      by : (decision_of world call (over both process) ≡ decision_of world call (over one process)) ⊎
          (decision_of world call (over both process) ≡ decision_of world call (over other process))
          → (own_by both world call (Some process) ≡ own_by one world call (Some process)) ⊎
          (own_by both world call (Some process) ≡ own_by other world call (Some process))
      by (inl e) = inl (ap (own_decided both world call process) e ∙ by_decision both one world call nothing process _)
      by (inr e) = inr (ap (own_decided both world call process) e ∙ by_decision both other world call nothing process _)

  pub as_one : own_step one world call ≡ own_step other world call → own_step both world call ≡ own_step one world call
  as_one same = by (either_by (living_of world call.pid))
    where
      by : (own_step both world call ≡ own_step one world call) ⊎ (own_step both world call ≡ own_step other world call)
          → own_step both world call ≡ own_step one world call
      by (inl e) = e
      by (inr e) = e ∙ sym same
