-- A world with one process, and what a call of it that is done leaves.
use Rattle.std.proofs.Common.{◌≡◌, ℕ, zero, suc, Bool, true, false, cond, codes, List, [], ◌∷◌, ◌++◌, Option, Some, None, Result, Ok, Err}
use Rattle.std.proofs.Common.{refl, ap, ◌∙◌, subst, length, sym, map, eqb}
use Rattle.std.specs.Prelude.{slice_get, slice_set, nat_lt, nat_le, ◌-◌, ◌+◌, ◌||◌, not}
use Rattle.kernel_laws.specs.bpf_code.declared.machine.Insn.{Insn}
use Rattle.kernel_laws.specs.bpf_code.declared.decision.Decision.{Decision}
use Rattle.kernel_laws.specs.bpf_code.declared.decision.Decision.TheVariants as decision
use Rattle.kernel_laws.specs.bpf_code.Stack.{decision_on, room_of}
use Rattle.kernel_laws.specs.bpf_code.ProgramOf.{program_of}
use Rattle.exec_settings.specs.cap_sets.Sets.{has}
use Rattle.kernel_laws.specs.call_table.Table as calls
use Rattle.exec_settings.specs.site_table.Table.{Site, row_at}
use Rattle.kernel_laws.specs.kern_creds.declared.creds.Creds.{Creds}
use Rattle.kernel_laws.specs.kern_mounts.declared.step.MountStep.{MountStep}
use Rattle.kernel_laws.specs.kernel_model.declared.kernel_calls.call.Call.{Call}
use Rattle.kernel_laws.specs.kernel_model.declared.kernel_calls.payload.Payload.{Payload}
use Rattle.kernel_laws.specs.kernel_model.declared.kernel_calls.payload.Payload.TheVariants.{Nothing, Code}
use Rattle.kernel_laws.specs.kernel_model.declared.kernel_calls.rule.Rule.{Rule}
use Rattle.kernel_laws.specs.kernel_model.kernel_calls.Rules.{rule_at}
use Rattle.kernel_laws.specs.kernel_model.declared.kernel_calls.rule.Rule.TheVariants as rule
use Rattle.kernel_laws.specs.call_table.declared.call_names.rule.CallRule.TheVariants as known
use Rattle.kernel_laws.specs.kernel_model.kernel_calls.Operation as d
use Rattle.kernel_laws.specs.kernel_model.kernel_calls.Operation.{Operation, operation_by, asked_by, asked_if, asked_of}
use Rattle.kernel_laws.specs.kernel_model.Effects as f
use Rattle.kernel_laws.specs.kernel_model.Effects.{Effect, Host, effect_of, creds_effect, push_effect, seccomp_effect}
use Rattle.launcher.specs.Launch.{LaunchStep, Mounts, number_of, first_call, makes, launch_step, new_mounts}
use Rattle.kernel_laws.specs.kernel_model.MountStep.{with_step}
use Rattle.kernel_laws.specs.kern_mounts.Mounts.{Mounts as MountList, plain, steps_of}
use Rattle.kernel_laws.specs.kern_mounts.Split.{Table}
use Rattle.kernel_laws.specs.kern_mounts.declared.step.Flags.{Flags}
use Rattle.kernel_laws.specs.kern_mounts.Remount.{with_root_flags}
use Rattle.kernel_laws.proofs.OfKernMounts.Plain.{steps_plain}
use Rattle.std.proofs.lemmas.List.{map-append}
use Rattle.exec_settings.specs.abs_path.Paths.{is_root}
use Rattle.kernel_laws.specs.kernel_model.Runs.{IsDone}
use Rattle.kernel_laws.specs.kernel_model.declared.reply.Reply.TheVariants as w
use Rattle.kernel_laws.specs.kernel_model.MountNamespaces.{namespace_or, owned_by_first, with_other_table}
use Rattle.kernel_laws.specs.kernel_model.World.{World, has_mdwe, of_number, namespace_of, mounts_of, table_of, host_of, caller_of, owner_of}
use Rattle.kernel_laws.specs.kern_mounts.Copying.{copied}
use Rattle.kernel_laws.specs.kernel_model.declared.mount_namespace.MountNamespace.{MountNamespace}
use Rattle.kernel_laws.specs.kernel_model.declared.process.Process.{Process}
use Rattle.kernel_laws.specs.kernel_model.declared.reply.Reply.{Reply}
use Rattle.kernel_laws.specs.kernel_model.Step.{step, applied, answered, decided, data_of}
use Rattle.kernel_laws.proofs.Numbered.{number_get, push_last, not_first}
use Rattle.kernel_laws.specs.linux_numbers.Errnos.{eacces, enomem, enospc, eperm}
use Rattle.kernel_laws.specs.linux_numbers.Limits.{max_insns_per_path}
use Rattle.kernel_laws.specs.linux_numbers.Capabilities.{cap_sys_admin}

-- an entry that a launcher mounts on a table: at `/` its flags are given to the first entry, everywhere else it is the last
abbrev pub with_first_flags : Flags → Table → Table
with_first_flags flags [] = []
with_first_flags flags (first ∷ table) = record first { flags = flags } ∷ table

abbrev pub with_entry : Table → MountStep → Table
with_entry table entry = cond (is_root entry.place) (with_first_flags entry.flags table) (table ++ entry ∷ [])

step_plain : (table : Table) (entry : MountStep) → with_step (map plain table) entry ≡ map plain (with_entry table entry)
step_plain table entry = by (is_root entry.place)
  where
    first : (table : Table) → with_root_flags entry.flags (map plain table) ≡ map plain (with_first_flags entry.flags table)
    first [] = refl
    first (own ∷ table) = refl

    by : (b : Bool) → cond b (with_root_flags entry.flags (map plain table)) (map plain table ++ plain entry ∷ [])
        ≡ map plain (cond b (with_first_flags entry.flags table) (table ++ entry ∷ []))
    by true = first table
    by false = sym (map-append plain table (entry ∷ []))

module _ (table : calls.Table) (site : Site) where
  abbrev pub only : Creds → List (List Insn) → ℕ → Process
  only creds stack namespace = record { creds = creds; stack = stack; namespace = namespace; user = 1; alive = true }

  abbrev pub solo : Creds → List (List Insn) → ℕ → List MountNamespace → World
  solo creds stack namespace spaces =
      record { calls = table; site = site; processes = only creds stack namespace ∷ []; namespaces = spaces; users = 0 }

  -- process 1 lives alone, with such credentials, these programs and this mount table
  pub record At (Q : Creds → Type 0) (stack : List (List Insn)) (mounts : Table) (world : World) : Type 0 where
    pub creds : Creds
    pub namespace : ℕ
    pub spaces : List MountNamespace
    pub as_asked : Q creds
    pub is : world ≡ solo creds stack namespace spaces
    pub own : of_number spaces namespace ≡ Some (owned_by_first (map plain mounts))

  pub weaker : (Q R : Creds → Type 0) (stack : List (List Insn)) (mounts : Table) (world : World) → ((creds : Creds) → Q creds → R creds)
      → At Q stack mounts world → At R stack mounts world
  weaker Q R stack mounts world to at = record { creds = at.creds; namespace = at.namespace; spaces = at.spaces; as_asked = to at.creds at.as_asked; is = at.is; own = at.own }

  -- a call that is done was let through
  let_through : (world : World) (call : Call) (process : Process) (decision' : Decision) → IsDone (decided world call process decision').0
      → decided world call process decision' ≡ answered world call.pid process (asked_of world.calls call)
  let_through world call process decision.Pass done = refl
  let_through world call process (decision.Errno errno) done = absurd done
  let_through world call process decision.Kill done = absurd done

  pub passed : (world : World) (call : Call) (process : Process) (decision' : Decision) → IsDone (decided world call process decision').0
      → decision' ≡ decision.Pass
  passed world call process decision.Pass done = refl
  passed world call process (decision.Errno errno) done = absurd done
  passed world call process decision.Kill done = absurd done

  module _ (creds : Creds) (stack : List (List Insn)) (namespace : ℕ) (spaces : List MountNamespace) where
    abbrev world : World
    world = solo creds stack namespace spaces

    abbrev process : Process
    process = only creds stack namespace

    pub does : (nr : ℕ) (args : List ℕ) (payload : Payload) (rule' : Rule) (operation : Operation) → rule_at table.calls nr ≡ Some rule'
        → operation_by rule' args payload ≡ Some operation
        → IsDone (step world (record { pid = 1; abi = 0; nr = nr; args = args; payload = payload })).0
        → step world (record { pid = 1; abi = 0; nr = nr; args = args; payload = payload })
        ≡ applied world 1 process (effect_of (host_of world) (caller_of world process) operation)
    does nr args payload rule' operation by_rule is done =
        let call : Call = record { pid = 1; abi = 0; nr = nr; args = args; payload = payload } in
        let_through world call process (decision_on stack (data_of world call)) done
        ∙ ap (λ (o : Option Rule). answered world 1 process (asked_by o call)) by_rule
        ∙ ap (λ (o : Option Operation). answered world 1 process (asked_if o)) is

    pub creds_done : (answer : Result Creds ℕ) → IsDone (applied world 1 process (creds_effect answer)).0
        → (now : Creds) × (answer ≡ Ok now) × ((applied world 1 process (creds_effect answer)).1 ≡ solo now stack namespace spaces)
    creds_done (Ok now) done = (now, refl, refl)
    creds_done (Err errno) done = absurd done

    pub own_space : (mounts : Table) → of_number spaces namespace ≡ Some (owned_by_first (map plain mounts))
        → namespace_of world namespace ≡ owned_by_first (map plain mounts)
    own_space mounts own = ap namespace_or own

    pub own_mounts : (mounts : Table) → of_number spaces namespace ≡ Some (owned_by_first (map plain mounts))
        → mounts_of world namespace ≡ map plain mounts
    own_mounts mounts own = ap (λ (n : MountNamespace). n.table) (own_space mounts own)

    pub own_table : (mounts : Table) → of_number spaces namespace ≡ Some (owned_by_first (map plain mounts))
        → table_of world namespace ≡ mounts
    own_table mounts own = ap (λ (t : MountList). steps_of t) (own_mounts mounts own) ∙ steps_plain mounts

  -- the host, as a rule sees it
  abbrev pub own_host : Host
  own_host = record { rows = row_at site.rows; families = table.families; mdwe = has_mdwe site; rings = site.io_uring }

  -- a call of the launch that changes credentials, as this host has it
  pub makes_creds_here : (Q R : Creds → Type 0) (name : List ℕ) (one two three : ℕ) (payload : Payload) (rule' : Rule) (operation : Operation)
      (answer : Creds → Result Creds ℕ)
      → rule_at table.calls (number_of table.calls name) ≡ Some rule'
      → operation_by rule' (one ∷ two ∷ three ∷ 0 ∷ 0 ∷ 0 ∷ []) payload ≡ Some operation
      → ((creds : Creds) (stack : List (List Insn)) (mounts : MountList) (owns : Bool)
      → effect_of own_host (record { creds = creds; stack = stack; table = mounts; newer = false; owns = owns }) operation
      ≡ creds_effect (answer creds))
      → ((creds now : Creds) → Q creds → answer creds ≡ Ok now → R now)
      → (stack : List (List Insn)) (mounts : Table) (world' : World) → At Q stack mounts world'
      → IsDone (launch_step world' (makes table.calls name one two three payload)).0
      → At R stack mounts (launch_step world' (makes table.calls name one two three payload)).1
  makes_creds_here Q R name one two three payload rule' operation answer by_rule is effect to stack mounts world' at done =
      let own : World = solo at.creds stack at.namespace at.spaces in
      let call : Call = first_call table.calls name (one ∷ two ∷ three ∷ 0 ∷ 0 ∷ 0 ∷ []) payload in
      let done' : IsDone (step own call).0 = subst (λ (v : World). IsDone (step v call).0) at.is done in
      let stepped = does at.creds stack at.namespace at.spaces call.nr call.args payload rule' operation by_rule is done'
      ∙ ap (λ (e : Effect). applied own 1 (only at.creds stack at.namespace) e) (effect at.creds stack (mounts_of own at.namespace) (eqb (owner_of own at.namespace) 1)) in
      let found = creds_done at.creds stack at.namespace at.spaces (answer at.creds) (subst (λ (out : Reply × World). IsDone out.0) stepped done') in
      record {
        creds = found.0;
        namespace = at.namespace;
        spaces = at.spaces;
        as_asked = to at.creds found.0 at.as_asked found.1;
        is = ap (λ (v : World). (step v call).1) at.is ∙ ap (λ (out : Reply × World). out.1) stepped ∙ found.2;
        own = at.own;
      }

  -- the same of every host
  pub makes_creds : (Q R : Creds → Type 0) (name : List ℕ) (one two three : ℕ) (payload : Payload) (rule' : Rule) (operation : Operation)
      (answer : Creds → Result Creds ℕ)
      → rule_at table.calls (number_of table.calls name) ≡ Some rule'
      → operation_by rule' (one ∷ two ∷ three ∷ 0 ∷ 0 ∷ 0 ∷ []) payload ≡ Some operation
      → ((host : Host) (creds : Creds) (stack : List (List Insn)) (mounts : MountList) (owns : Bool)
      → effect_of host (record { creds = creds; stack = stack; table = mounts; newer = false; owns = owns }) operation
      ≡ creds_effect (answer creds))
      → ((creds now : Creds) → Q creds → answer creds ≡ Ok now → R now)
      → (stack : List (List Insn)) (mounts : Table) (world' : World) → At Q stack mounts world'
      → IsDone (launch_step world' (makes table.calls name one two three payload)).0
      → At R stack mounts (launch_step world' (makes table.calls name one two three payload)).1
  makes_creds Q R name one two three payload rule' operation answer by_rule is effect to stack mounts world' at done =
      makes_creds_here Q R name one two three payload rule' operation answer by_rule is (effect own_host) to stack mounts world' at done

  -- a program that is pushed
  push_done : (creds : Creds) (stack : List (List Insn)) (namespace : ℕ) (spaces : List MountNamespace) (read : Option (List Insn))
      → IsDone (applied (solo creds stack namespace spaces) 1 (only creds stack namespace) (push_effect stack read)).0
      → (code : List Insn) × (read ≡ Some code) ×
      ((applied (solo creds stack namespace spaces) 1 (only creds stack namespace) (push_effect stack read)).1
      ≡ solo creds (stack ++ code ∷ []) namespace spaces)
  push_done creds stack namespace spaces None done = absurd done
  push_done creds stack namespace spaces (Some code) done = by (nat_le (room_of stack + length code) max_insns_per_path) done
    where
      by : (b : Bool) → IsDone (applied (solo creds stack namespace spaces) 1 (only creds stack namespace)
          (cond b (f.Push code) (f.Refuse enomem))).0
          → (c : List Insn) × (Some code ≡ Some c) ×
          ((applied (solo creds stack namespace spaces) 1 (only creds stack namespace) (cond b (f.Push code) (f.Refuse enomem))).1
          ≡ solo creds (stack ++ c ∷ []) namespace spaces)
      by true done = (code, refl, refl)
      by false done = absurd done

  seccomp_done : (creds : Creds) (stack : List (List Insn)) (namespace : ℕ) (spaces : List MountNamespace) (bytes : List ℕ)
      → IsDone (applied (solo creds stack namespace spaces) 1 (only creds stack namespace) (seccomp_effect creds stack 1 0 bytes)).0
      → (code : List Insn) × (program_of bytes ≡ Some code) ×
      ((applied (solo creds stack namespace spaces) 1 (only creds stack namespace) (seccomp_effect creds stack 1 0 bytes)).1
      ≡ solo creds (stack ++ code ∷ []) namespace spaces)
  seccomp_done creds stack namespace spaces bytes done = by (creds.no_new_privs || has creds.effective cap_sys_admin) done
    where
      by : (b : Bool) → IsDone (applied (solo creds stack namespace spaces) 1 (only creds stack namespace)
          (cond (not b) (f.Refuse eacces) (push_effect stack (program_of bytes)))).0
          → (code : List Insn) × (program_of bytes ≡ Some code) ×
          ((applied (solo creds stack namespace spaces) 1 (only creds stack namespace)
          (cond (not b) (f.Refuse eacces) (push_effect stack (program_of bytes)))).1 ≡ solo creds (stack ++ code ∷ []) namespace spaces)
      by true done = push_done creds stack namespace spaces (program_of bytes) done
      by false done = absurd done

  pub record Pushed (Q : Creds → Type 0) (stack : List (List Insn)) (mounts : Table) (bytes : List ℕ) (world : World) : Type 0 where
    pub code : List Insn
    pub read : program_of bytes ≡ Some code
    pub at : At Q (stack ++ code ∷ []) mounts world

  abbrev pub seccomp_call : List ℕ → LaunchStep
  seccomp_call bytes = makes table.calls (codes "seccomp") 1 0 0 (Code bytes)

  pub makes_push : (Q : Creds → Type 0) (bytes : List ℕ) → rule_at table.calls (number_of table.calls (codes "seccomp"))
      ≡ Some (rule.Known known.Seccomp)
      → (stack : List (List Insn)) (mounts : Table) (world' : World) → At Q stack mounts world'
      → IsDone (launch_step world' (seccomp_call bytes)).0
      → Pushed Q stack mounts bytes (launch_step world' (seccomp_call bytes)).1
  makes_push Q bytes by_rule stack mounts world' at done =
      let own : World = solo at.creds stack at.namespace at.spaces in
      let call : Call = first_call table.calls (codes "seccomp") (1 ∷ 0 ∷ 0 ∷ 0 ∷ 0 ∷ 0 ∷ []) (Code bytes) in
      let done' : IsDone (step own call).0 = subst (λ (v : World). IsDone (step v call).0) at.is done in
      let stepped = does at.creds stack at.namespace at.spaces call.nr call.args (Code bytes) (rule.Known known.Seccomp) (d.Seccomp 1 0 bytes) by_rule refl done' in
      let found = seccomp_done at.creds stack at.namespace at.spaces bytes (subst (λ (out : Reply × World). IsDone out.0) stepped done') in
      record {
        code = found.0;
        read = found.1;
        at = record {
          creds = at.creds;
          namespace = at.namespace;
          spaces = at.spaces;
          as_asked = at.as_asked;
          is = ap (λ (v : World). (step v call).1) at.is ∙ ap (λ (out : Reply × World). out.1) stepped ∙ found.2;
          own = at.own;
        };
      }

  -- an entry that the launcher mounts
  get_set : {X : Type 0} (xs : List X) (i : ℕ) (y z : X) → slice_get xs i ≡ Some z → slice_get (slice_set xs i y) i ≡ Some y
  get_set [] i y z e = cc
  get_set (x ∷ xs) zero y z e = refl
  get_set (x ∷ xs) (suc i) y z e = get_set xs i y z e

  pub mounts_entry : (Q : Creds → Type 0) (entry : MountStep) (stack : List (List Insn)) (mounts : Table) (world' : World)
      → At Q stack mounts world'
      → At Q stack (with_entry mounts entry) (launch_step world' (Mounts entry)).1
  mounts_entry Q entry stack mounts world' at =
      let made = number_get at.spaces at.namespace (owned_by_first (map plain mounts)) at.own in
      let next : MountNamespace = owned_by_first (map plain (with_entry mounts entry)) in
      record {
        creds = at.creds;
        namespace = at.namespace;
        spaces = slice_set at.spaces (at.namespace - 1) next;
        as_asked = at.as_asked;
        is = ap (λ (v : World). (launch_step v (Mounts entry)).1) at.is
            ∙ ap (λ (n : MountNamespace). record (solo at.creds stack at.namespace at.spaces)
            { namespaces = slice_set at.spaces (at.namespace - 1) (with_other_table n (with_step n.table entry)) })
            (own_space at.creds stack at.namespace at.spaces mounts at.own)
            ∙ ap (λ (t : MountList). record (solo at.creds stack at.namespace at.spaces)
            { namespaces = slice_set at.spaces (at.namespace - 1) (owned_by_first t) }) (step_plain mounts entry);
        own = ap (λ (b : Bool). cond b None (slice_get (slice_set at.spaces (at.namespace - 1) next) (at.namespace - 1))) made.0
            ∙ get_set at.spaces (at.namespace - 1) next (owned_by_first (map plain mounts)) made.1;
      }

  -- a namespace of its own
  abbrev unshared : Creds → List (List Insn) → ℕ → List MountNamespace → Effect → Type 0
  unshared creds stack namespace spaces effect =
      IsDone (applied (solo creds stack namespace spaces) 1 (only creds stack namespace) effect).0
      → (applied (solo creds stack namespace spaces) 1 (only creds stack namespace) effect).1
      ≡ solo creds stack (length spaces + 1) (spaces ++ owned_by_first (mounts_of (solo creds stack namespace spaces) namespace) ∷ [])

  abbrev after_with : Creds → List (List Insn) → ℕ → List MountNamespace → ℕ → World
  after_with creds stack namespace spaces owner = solo creds stack (length spaces + 1) (spaces ++ owned_by_first (copied (not (eqb owner 1)) (mounts_of (solo creds stack namespace spaces) namespace)) ∷ [])

  own_done : (creds : Creds) (stack : List (List Insn)) (namespace : ℕ) (spaces : List MountNamespace)
      → owner_of (solo creds stack namespace spaces) namespace ≡ 1 → unshared creds stack namespace spaces f.OwnTable
  own_done creds stack namespace spaces home done = by (nat_lt (length spaces) 64) done
    where
      by : (b : Bool) → IsDone (cond {A = Reply × World} b (w.Done 0, after_with creds stack namespace spaces (owner_of (solo creds stack namespace spaces) namespace)) (w.Refused enospc, solo creds stack namespace spaces)).0
          → (cond {A = Reply × World} b (w.Done 0, after_with creds stack namespace spaces (owner_of (solo creds stack namespace spaces) namespace)) (w.Refused enospc, solo creds stack namespace spaces)).1 ≡ solo creds stack (length spaces + 1) (spaces ++ owned_by_first (mounts_of (solo creds stack namespace spaces) namespace) ∷ [])
      by true done = ap (after_with creds stack namespace spaces) home
      by false done = absurd done

  admin_done : (creds : Creds) (stack : List (List Insn)) (namespace : ℕ) (spaces : List MountNamespace)
      → owner_of (solo creds stack namespace spaces) namespace ≡ 1 → (b : Bool)
      → unshared creds stack namespace spaces (cond b f.OwnTable (f.Refuse eperm))
  admin_done creds stack namespace spaces home true done = own_done creds stack namespace spaces home done
  admin_done creds stack namespace spaces home false done = absurd done

  abbrev pub unshare_call : LaunchStep
  unshare_call = makes table.calls (codes "unshare") new_mounts 0 0 Nothing

  pub makes_unshare : (Q : Creds → Type 0) → rule_at table.calls (number_of table.calls (codes "unshare")) ≡ Some (rule.Known known.Unshare)
      → (stack : List (List Insn)) (mounts : Table) (world' : World) → At Q stack mounts world' → IsDone (launch_step world' unshare_call).0
      → At Q stack mounts (launch_step world' unshare_call).1
  makes_unshare Q by_rule stack mounts world' at done =
      let own : World = solo at.creds stack at.namespace at.spaces in
      let call : Call = first_call table.calls (codes "unshare") (new_mounts ∷ 0 ∷ 0 ∷ 0 ∷ 0 ∷ 0 ∷ []) Nothing in
      let done' : IsDone (step own call).0 = subst (λ (v : World). IsDone (step v call).0) at.is done in
      let stepped = does at.creds stack at.namespace at.spaces call.nr call.args Nothing (rule.Known known.Unshare) (d.Unshare new_mounts) by_rule refl done' in
      let home = ap (λ (n : MountNamespace). n.owner) (own_space at.creds stack at.namespace at.spaces mounts at.own) in
      let after = admin_done at.creds stack at.namespace at.spaces home (has at.creds.effective cap_sys_admin) (subst (λ (out : Reply × World). IsDone out.0) stepped done') in
      record {
        creds = at.creds;
        namespace = length at.spaces + 1;
        spaces = at.spaces ++ owned_by_first (map plain mounts) ∷ [];
        as_asked = at.as_asked;
        is = ap (λ (v : World). (step v call).1) at.is ∙ ap (λ (out : Reply × World). out.1) stepped ∙ after
            ∙ ap (λ (t : MountList). solo at.creds stack (length at.spaces + 1) (at.spaces ++ owned_by_first t ∷ []))
            (own_mounts at.creds stack at.namespace at.spaces mounts at.own);
        own = ap (λ (b : Bool). cond b None (slice_get (at.spaces ++ owned_by_first (map plain mounts) ∷ []) (length at.spaces + 1 - 1)))
            (not_first (length at.spaces)) ∙ push_last at.spaces (owned_by_first (map plain mounts));
      }
