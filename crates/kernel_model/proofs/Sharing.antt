-- Which table processes have after fork, clone and unshare.
use Rattle.std.proofs.Common.{◌≡◌, ℕ, ◌+◌, ◌-◌, ◌==◌, Bool, true, false, cond, List, [], ◌∷◌, ◌++◌, length, Some, refl, sym, ap, ◌∙◌, subst}
use Rattle.std.proofs.Common.{arith}
use Rattle.std.specs.Prelude.{slice_get, slice_set, not}
use Rattle.std.specs.Int.RustNames.{bit_and}
use Rattle.std.proofs.lemmas.Nat.{and_assoc}
use Rattle.bpf_code.specs.declared.decision.Decision.{Decision}
use Rattle.bpf_code.specs.declared.decision.Decision.TheVariants as decision
use Rattle.kern_mounts.specs.linux_numbers.Errnos.{eperm, einval}
use Rattle.kern_mounts.specs.linux_numbers.Capabilities.{cap_sys_admin}
use Rattle.site_table.specs.cap_sets.Sets.{has}
use Rattle.kern_creds.specs.declared.creds.Creds.{Creds}
use Rattle.kernel_model.specs.kern_files.Bits.{has_some}
use Rattle.kernel_model.specs.declared.kernel_calls.call.Call.{Call}
use Rattle.kernel_model.specs.kernel_calls.Operation.{Operation, Does, Fork, Clone, Unshare, asked_of}
use Rattle.kernel_model.specs.declared.mount_namespace.MountNamespace.{MountNamespace}
use Rattle.kernel_model.specs.declared.process.Process.{Process}
use Rattle.kernel_model.specs.declared.reply.Reply.{Reply}
use Rattle.kernel_model.specs.declared.reply.Reply.TheVariants as reply
use Rattle.kernel_model.specs.Effects as f
use Rattle.kernel_model.specs.Effects.{Effect, effect_of, with_admin, clone_effect, unshare_effect, thread_flag, newns, newuser}
use Rattle.kernel_model.specs.Effects.{other_spaces, no_spaces}
use Rattle.kernel_model.specs.MountNamespaces.{copy_for, namespace_or}
use Rattle.kernel_model.specs.World.{World, living_of, process_of, of_number, namespace_of, with_copy, moved_to, host_of, caller_of}
use Rattle.kernel_model.specs.Step.{step, step_by, decided, answered, applied, decision_of}
use Rattle.kernel_model.specs.StepCases as case
use Rattle.kernel_model.specs.StepCases.{EffectCase}
use Rattle.kernel_model.specs.Laws.{IsForked, ForkShares, IsCloned, CloneGivesACopy, IsUnshared, UnshareGivesACopy}
use Rattle.kernel_model.proofs.Lists.{get_last, get_earlier, get_set, length-push}
use Rattle.kernel_model.proofs.Places.{number_get, get_number, living_made}
use Rattle.kernel_model.proofs.Cases.{effect_case}

-- a step that is done is what its effect comes to
decided_done : (world : World) (call : Call) (process : Process) (operation : Operation) (value : ℕ) (d : Decision)
    → asked_of world.calls call ≡ Does operation → (decided world call process d).0 ≡ reply.Done value
    → decided world call process d ≡ applied world call.pid process (effect_of (host_of world) (caller_of world process) operation)
decided_done world call process operation value decision.Pass asked e = ap (answered world call.pid process) asked
decided_done world call process operation value (decision.Errno errno) asked e = cc
decided_done world call process operation value decision.Kill asked e = cc

done_is : (world : World) (call : Call) (process : Process) (operation : Operation) (value : ℕ) → living_of world call.pid ≡ Some process
    → asked_of world.calls call ≡ Does operation → (step world call).0 ≡ reply.Done value
    → step world call ≡ applied world call.pid process (effect_of (host_of world) (caller_of world process) operation)
done_is world call process operation value living asked e =
    let lived : step world call ≡ decided world call process (decision_of world call process) = ap (step_by world call) living in
    lived ∙ decided_done world call process operation value (decision_of world call process) asked
    (ap (λ (out : Reply × World). out.0) (sym lived) ∙ e)

-- what is behind the others has the next number
last_number : {X : Type 0} (xs : List X) (x : X) → of_number (xs ++ x ∷ []) (length xs + 1) ≡ Some x
last_number xs x =
    let at : length xs + 1 - 1 ≡ length xs = omega arith in
    get_number (xs ++ x ∷ []) (length xs + 1) x (nonzero (length xs)) (ap (slice_get (xs ++ x ∷ [])) at ∙ get_last xs x)
  where
    nonzero : (n : ℕ) → (n + 1 == 0) ≡ false
    nonzero n = grind arith

earlier_number : {X : Type 0} (xs : List X) (number : ℕ) (x y : X) → of_number xs number ≡ Some y → of_number (xs ++ x ∷ []) number ≡ Some y
earlier_number xs number x y e = let h = number_get xs number y e in get_number (xs ++ x ∷ []) number y h.0 (get_earlier xs (number - 1) x y h.1)

set_number : {X : Type 0} (xs : List X) (number : ℕ) (x y : X) → of_number xs number ≡ Some y
    → of_number (slice_set xs (number - 1) x) number ≡ Some x
set_number xs number x y e = let h = number_get xs number y e in get_number (slice_set xs (number - 1) x) number x h.0 (get_set xs (number - 1) x y h.1)

forked : (world : World) (pid : ℕ) (process : Process) (value : ℕ) (effect : Effect) (out : Reply × World)
    → process_of world pid ≡ Some process → effect ≡ f.Child false → EffectCase world pid process effect out → out.0 ≡ reply.Done value
    → IsForked world pid process value out.1
forked world pid process value effect out made is (case.shares room) e =
    let number : value ≡ length world.processes + 1 = cc in
    record {
      parent = earlier_number world.processes pid process process made;
      child = ap (λ (n : ℕ). of_number (world.processes ++ process ∷ []) n) number ∙ last_number world.processes process;
      number = number;
      namespaces = refl;
    }
forked world pid process value effect out made is (case.refuses errno) e = cc
forked world pid process value effect out made is (case.answers other) e = cc
forked world pid process value effect out made is (case.takes_creds other creds) e = cc
forked world pid process value effect out made is (case.takes_table table) e = cc
forked world pid process value effect out made is (case.takes_program program) e = cc
forked world pid process value effect out made is (case.no_process_left own full) e = cc
forked world pid process value effect out made is (case.no_namespace_for_child room full) e = cc
forked world pid process value effect out made is (case.gives_copy room space) e = cc
forked world pid process value effect out made is (case.no_namespace_left full) e = cc
forked world pid process value effect out made is (case.moves space) e = cc
forked world pid process value effect out made is (case.no_user_for_child own full) e = cc
forked world pid process value effect out made is (case.no_process_for_user own left full) e = cc
forked world pid process value effect out made is (case.gives_user left room) e = cc
forked world pid process value effect out made is (case.no_namespace_for_user left room full) e = cc
forked world pid process value effect out made is (case.gives_user_and_copy left room space) e = cc
forked world pid process value effect out made is (case.no_user_left own full) e = cc
forked world pid process value effect out made is (case.enters left) e = cc
forked world pid process value effect out made is (case.no_namespace_behind_user left full) e = cc
forked world pid process value effect out made is (case.enters_and_moves left space) e = cc
forked world pid process value effect out made is case.ends e = cc

pub fork_shares : ForkShares
fork_shares world call process value living asked e =
    let is = done_is world call process Fork value living asked e in
    let after = forked world call.pid process value (f.Child false) (applied world call.pid process (f.Child false)) (living_made world call.pid process living) refl (effect_case world call.pid process (f.Child false)) (ap (λ (out : Reply × World). out.0) (sym is) ∙ e) in
    subst (λ (out : Reply × World). IsForked world call.pid process value out.1) (sym is) after

-- a process's new namespace
abbrev copy_of : World → Process → MountNamespace
copy_of world process = copy_for (namespace_of world process.namespace) process.user

fresh : (world : World) (process : Process)
    → namespace_of (with_copy world process.namespace process.user) (length world.namespaces + 1) ≡ copy_of world process
fresh world process = ap namespace_or (last_number world.namespaces (copy_of world process))

cloned : (world : World) (pid : ℕ) (process : Process) (value : ℕ) (effect : Effect)
    (out : Reply × World) → process_of world pid ≡ Some process → effect ≡ f.Child true → EffectCase world pid process effect out
    → out.0 ≡ reply.Done value → IsCloned world pid process value out.1
cloned world pid process value effect out made is (case.gives_copy room space) e =
    let number : value ≡ length world.processes + 1 = cc in
    let child = moved_to process (length world.namespaces) in
    record {
      parent = earlier_number world.processes pid child process made;
      child = ap (λ (n : ℕ). of_number (world.processes ++ child ∷ []) n) number ∙ last_number world.processes child;
      number = number;
      own_table = ap (λ (n : MountNamespace). n.table) (fresh world process);
      owner = ap (λ (n : MountNamespace). n.owner) (fresh world process);
      count = length-push world.namespaces (copy_of world process);
    }
cloned world pid process value effect out made is (case.refuses errno) e = cc
cloned world pid process value effect out made is (case.answers other) e = cc
cloned world pid process value effect out made is (case.takes_creds other creds) e = cc
cloned world pid process value effect out made is (case.takes_table table) e = cc
cloned world pid process value effect out made is (case.takes_program program) e = cc
cloned world pid process value effect out made is (case.no_process_left own full) e = cc
cloned world pid process value effect out made is (case.shares room) e = cc
cloned world pid process value effect out made is (case.no_namespace_for_child room full) e = cc
cloned world pid process value effect out made is (case.no_namespace_left full) e = cc
cloned world pid process value effect out made is (case.moves space) e = cc
cloned world pid process value effect out made is (case.no_user_for_child own full) e = cc
cloned world pid process value effect out made is (case.no_process_for_user own left full) e = cc
cloned world pid process value effect out made is (case.gives_user left room) e = cc
cloned world pid process value effect out made is (case.no_namespace_for_user left room full) e = cc
cloned world pid process value effect out made is (case.gives_user_and_copy left room space) e = cc
cloned world pid process value effect out made is (case.no_user_left own full) e = cc
cloned world pid process value effect out made is (case.enters left) e = cc
cloned world pid process value effect out made is (case.no_namespace_behind_user left full) e = cc
cloned world pid process value effect out made is (case.enters_and_moves left space) e = cc
cloned world pid process value effect out made is case.ends e = cc

unshared : (world : World) (pid : ℕ) (process : Process) (value : ℕ)
    (effect : Effect) (out : Reply × World) → process_of world pid ≡ Some process → effect ≡ f.OwnTable
    → EffectCase world pid process effect out → out.0 ≡ reply.Done value → IsUnshared world pid process out.1
unshared world pid process value effect out made is (case.moves space) e = record {
  caller = set_number world.processes pid (moved_to process (length world.namespaces)) process made;
  own_table = ap (λ (n : MountNamespace). n.table) (fresh world process);
  owner = ap (λ (n : MountNamespace). n.owner) (fresh world process);
  count = length-push world.namespaces (copy_of world process);
}
unshared world pid process value effect out made is (case.gives_copy room space) e = cc
unshared world pid process value effect out made is (case.refuses errno) e = cc
unshared world pid process value effect out made is (case.answers other) e = cc
unshared world pid process value effect out made is (case.takes_creds other creds) e = cc
unshared world pid process value effect out made is (case.takes_table table) e = cc
unshared world pid process value effect out made is (case.takes_program program) e = cc
unshared world pid process value effect out made is (case.no_process_left own full) e = cc
unshared world pid process value effect out made is (case.shares room) e = cc
unshared world pid process value effect out made is (case.no_namespace_for_child room full) e = cc
unshared world pid process value effect out made is (case.no_namespace_left full) e = cc
unshared world pid process value effect out made is (case.no_user_for_child own full) e = cc
unshared world pid process value effect out made is (case.no_process_for_user own left full) e = cc
unshared world pid process value effect out made is (case.gives_user left room) e = cc
unshared world pid process value effect out made is (case.no_namespace_for_user left room full) e = cc
unshared world pid process value effect out made is (case.gives_user_and_copy left room space) e = cc
unshared world pid process value effect out made is (case.no_user_left own full) e = cc
unshared world pid process value effect out made is (case.enters left) e = cc
unshared world pid process value effect out made is (case.no_namespace_behind_user left full) e = cc
unshared world pid process value effect out made is (case.enters_and_moves left space) e = cc
unshared world pid process value effect out made is case.ends e = cc

-- clone and unshare refuse, or make what CLONE_NEWNS asks for: it is one of the six namespaces
data Asks (effect : Effect) : Effect → Type 0 where
  refuses : (errno : ℕ) → Asks effect (f.Refuse errno)
  asks : Asks effect effect

-- the flag is among the six, so that some of them is on
newns_is_other : (flags : ℕ) → has_some newns flags ≡ true → has_some other_spaces flags ≡ true
newns_is_other flags e = by (bit_and flags other_spaces == 0) refl
  where
    none : bit_and flags other_spaces ≡ 0 → bit_and flags newns ≡ 0
    none z =
        let mask : bit_and other_spaces newns ≡ newns = refl in
        sym (ap (bit_and flags) mask) ∙ sym (and_assoc newns flags other_spaces) ∙ ap (λ (n : ℕ). bit_and n newns) z

    by : (b : Bool) → (bit_and flags other_spaces == 0) ≡ b → not b ≡ true
    by false z = refl
    by true z =
        let zero_is : bit_and flags other_spaces ≡ 0 = grind (arith, z) in
        let without : has_some newns flags ≡ false = ap (λ (n : ℕ). not (n == 0)) (none zero_is) in
        let wrong : true ≡ false = sym e ∙ without in
        cc

asks_admin : (creds : Creds) (effect : Effect) (b : Bool) → Asks effect (cond b effect (f.Refuse eperm))
asks_admin creds effect true = asks
asks_admin creds effect false = refuses eperm

clone_asks : (creds : Creds) (flags : ℕ) → has_some newuser flags ≡ false → has_some newns flags ≡ true
    → Asks (f.Child true) (clone_effect creds flags)
clone_asks creds flags none e = thread (has_some thread_flag flags)
  where
    spaces : (b own : Bool) → b ≡ true → own ≡ true → Asks (f.Child true) (cond b (with_admin creds (f.Child own)) (f.Child false))
    spaces true true s o = asks_admin creds (f.Child true) (has creds.effective cap_sys_admin)
    spaces true false s o = cc
    spaces false own s o = cc

    user : (b : Bool) → b ≡ false
        → Asks (f.Child true)
        (cond b (f.UserChild (has_some newns flags))
        (cond (has_some other_spaces flags) (with_admin creds (f.Child (has_some newns flags))) (f.Child false)))
    user true n = cc
    user false n = spaces (has_some other_spaces flags) (has_some newns flags) (newns_is_other flags e) e

    thread : (b : Bool) → Asks (f.Child true)
        (cond b (f.Refuse einval)
        (cond (has_some newuser flags) (f.UserChild (has_some newns flags))
        (cond (has_some other_spaces flags) (with_admin creds (f.Child (has_some newns flags))) (f.Child false))))
    thread true = refuses einval
    thread false = user (has_some newuser flags) none

unshare_asks : (creds : Creds) (flags : ℕ) → has_some newuser flags ≡ false → has_some newns flags ≡ true
    → Asks f.OwnTable (unshare_effect creds flags)
unshare_asks creds flags none e = outside (has_some no_spaces flags)
  where
    spaces : (b own : Bool) → b ≡ true → own ≡ true → Asks f.OwnTable
        (cond b (with_admin creds (cond own f.OwnTable (f.Answer 0))) (f.Answer 0))
    spaces true true s o = asks_admin creds f.OwnTable (has creds.effective cap_sys_admin)
    spaces true false s o = cc
    spaces false own s o = cc

    user : (b : Bool) → b ≡ false
        → Asks f.OwnTable (cond b (f.OwnUser (has_some newns flags))
        (cond (has_some other_spaces flags) (with_admin creds (cond (has_some newns flags) f.OwnTable (f.Answer 0))) (f.Answer 0)))
    user true n = cc
    user false n = spaces (has_some other_spaces flags) (has_some newns flags) (newns_is_other flags e) e

    outside : (b : Bool) → Asks f.OwnTable
        (cond b (f.Refuse einval)
        (cond (has_some newuser flags) (f.OwnUser (has_some newns flags))
        (cond (has_some other_spaces flags) (with_admin creds (cond (has_some newns flags) f.OwnTable (f.Answer 0))) (f.Answer 0))))
    outside true = refuses einval
    outside false = user (has_some newuser flags) none

cloned_by : (world : World) (pid : ℕ) (process : Process) (value : ℕ)
    (effect : Effect) → process_of world pid ≡ Some process → Asks (f.Child true) effect
    → (applied world pid process effect).0 ≡ reply.Done value → IsCloned world pid process value (applied world pid process effect).1
cloned_by world pid process value effect made (refuses errno) e = cc
cloned_by world pid process value effect made asks e =
    cloned world pid process value (f.Child true) (applied world pid process (f.Child true)) made refl
    (effect_case world pid process (f.Child true)) e

pub clone_gives_a_copy : CloneGivesACopy
clone_gives_a_copy world call process flags value living asked none own e =
    let is = done_is world call process (Clone flags) value living asked e in
    subst (λ (out : Reply × World). IsCloned world call.pid process value out.1) (sym is)
    (cloned_by world call.pid process value (clone_effect process.creds flags) (living_made world call.pid process living)
    (clone_asks process.creds flags none own) (ap (λ (out : Reply × World). out.0) (sym is) ∙ e))

unshared_by : (world : World) (pid : ℕ) (process : Process) (value : ℕ)
    (effect : Effect) → process_of world pid ≡ Some process → Asks f.OwnTable effect
    → (applied world pid process effect).0 ≡ reply.Done value → IsUnshared world pid process (applied world pid process effect).1
unshared_by world pid process value effect made (refuses errno) e = cc
unshared_by world pid process value effect made asks e =
    unshared world pid process value f.OwnTable (applied world pid process f.OwnTable) made refl
    (effect_case world pid process f.OwnTable) e

pub unshare_gives_a_copy : UnshareGivesACopy
unshare_gives_a_copy world call process flags value living asked none own e =
    let is = done_is world call process (Unshare flags) value living asked e in
    subst (λ (out : Reply × World). IsUnshared world call.pid process out.1) (sym is)
    (unshared_by world call.pid process value (unshare_effect process.creds flags) (living_made world call.pid process living)
    (unshare_asks process.creds flags none own) (ap (λ (out : Reply × World). out.0) (sym is) ∙ e))
