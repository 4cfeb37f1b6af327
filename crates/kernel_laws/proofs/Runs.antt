-- Closed bounds hold in each world of each run that uses only what may be used, by many processes that share tables.
use Rattle.std.proofs.lemmas.Bool.{eqb-true, eq-eqb, not-false, not-true, and_from}
use Rattle.std.proofs.lemmas.Bool.Decides.{nat_tests}
use Rattle.std.proofs.Common.{arith, ◌≡◌, ℕ, Bool, true, false, List, [], ◌∷◌, ◌++◌, Option, Some, None, ◌⊎◌, inl, inr, refl, cond, ap, ◌∙◌}
use Rattle.std.proofs.Common.{sym, subst, length, append_assoc, eqb}
use Rattle.std.specs.Prelude.{slice_get, slice_set, nat_lt, not, ◌-◌, ◌+◌}
use Rattle.filter_settings.specs.bpf_code.declared.machine.Insn.{Insn}
use Rattle.filter_settings.specs.bpf_code.declared.decision.Decision.{Decision}
use Rattle.filter_settings.specs.bpf_code.declared.decision.Decision.TheVariants as decision
use Rattle.filter_settings.specs.bpf_code.Stack.{decision_on}
use Rattle.filter_settings.specs.call_table.Table as calls
use Rattle.kernel_model.specs.site_table.Table.{Site, row_at}
use Rattle.kernel_laws.specs.Bounds.{Bounds, KeepsIn}
use Rattle.kernel_model.specs.kern_creds.Enter.{entered}
use Rattle.kernel_model.specs.kern_mounts.Copying.{copied, locked_copy}
use Rattle.kernel_model.specs.declared.kernel_calls.call.Call.{Call}
use Rattle.kernel_model.specs.kernel_calls.Calls.{IsCall, AreCalls}
use Rattle.kernel_model.specs.kern_mounts.Mounts.{Mounts as Table}
use Rattle.kernel_model.specs.kernel_calls.Operation.{Operation, Asked, Lacking, Misformed, Does, asked_of}
use Rattle.kernel_model.specs.Effects as f
use Rattle.kernel_model.specs.Effects.{Effect, effect_of}
use Rattle.kernel_model.specs.declared.reply.Reply.TheVariants as reply
use Rattle.kernel_model.specs.MountNamespaces.{copy_for, namespace_or, with_other_table}
use Rattle.kernel_model.specs.World.{World, namespace_of, mounts_of, with_process, with_child, with_copy, moved_to, ended, living_of}
use Rattle.kernel_model.specs.World.{has_mdwe, host_of, caller_of, owner_of, is_newer, with_user, entered_by}
use Rattle.kernel_model.specs.declared.mount_namespace.MountNamespace.{MountNamespace}
use Rattle.kernel_model.specs.declared.process.Process.{Process}
use Rattle.kernel_model.specs.declared.reply.Reply.{Reply}
use Rattle.filter_settings.specs.linux_numbers.Errnos.{eagain, enospc}
use Rattle.kernel_model.specs.Step.{most_processes, most_namespaces, child_in, child_of, moved_in, has_user_left, applied, answered}
use Rattle.kernel_model.specs.Step.{decided, data_of, step_by, step, decision_of}
use Rattle.kernel_model.specs.Runs.{run}
use Rattle.kernel_laws.specs.declared.question_types.power.Power.{Power}
use Rattle.kernel_laws.specs.declared.question_types.kind.CallKind.{CallKind}
use Rattle.kernel_laws.specs.declared.question_types.kind.CallKind.TheVariants.{TakesUid, TakesGid, ForNamespace}
use Rattle.filter_settings.specs.linux_numbers.declared.namespaces.NamespaceType.TheVariants.{User}
use Rattle.kernel_laws.specs.Kinds.{asks}
use Rattle.kernel_laws.specs.Launched.{Launch, data_at, lets, can_make_user}
use Rattle.kernel_laws.specs.Ceiling.{CanHold, IsClosed, IsHeld, AreHeld, IsSafe, IsStable, TableIn}
use Rattle.kernel_laws.specs.Spared.{Uses, Spares, AllSpare}
use Rattle.kernel_laws.proofs.Numbered.{get_put, put_some_at, get_push, push_some, push_last, not_first, get_number, lives}
use Rattle.kernel_laws.proofs.Filters.{LetsThrough}
use Rattle.kernel_laws.proofs.Done.{passed_on}
use Rattle.kernel_laws.proofs.Steps.{safe_effect}
use Rattle.kernel_laws.proofs.Newer.{ids_of, ids-entered, not_one}
use Rattle.kernel_laws.proofs.NewerSteps.{safe_newer}

module _ (launch : Launch) (power : Power) (top : Bounds) (below : Table → Type 0) where
  abbrev Held : List MountNamespace → Process → Type 0
  Held = IsHeld launch power top below

  abbrev All : World → Type 0
  All = AreHeld launch power top below

  with_creds : (namespaces : List MountNamespace) (process now : Process) → Held namespaces process
      → KeepsIn (is_newer now) top now.creds → now.stack ≡ process.stack → now.namespace ≡ process.namespace → now.user ≡ process.user
      → Held namespaces now
  with_creds namespaces process now h kept stack namespace user = record {
    creds = kept;
    newer = h.newer;
    stack = stack ∙ h.stack;
    space = h.space;
    numbered = ap (λ n. eqb n 0) namespace ∙ h.numbered;
    own = ap (λ n. slice_get namespaces (n - 1)) namespace ∙ h.own;
    allowed = h.allowed;
    home = λ e. h.home (ap (λ u. not (eqb u 1)) (sym user) ∙ e);
    made = λ e. h.made (ap (λ u. not (eqb u 1)) (sym user) ∙ e);
  }

  -- one process changed
  held_put : (world : World) (pid : ℕ) (process : Process) → All world → Held world.namespaces process
      → All (with_process world pid process)
  held_put world pid process held one = record {
    calls = held.calls;
    site = held.site;
    each = λ j q e. by j q (get_put world.processes (pid - 1) j process q e);
  }
    where
      by : (j : ℕ) (q : Process) → (q ≡ process) ⊎ (slice_get world.processes j ≡ Some q) → Held world.namespaces q
      by j q (inl same) = subst (Held world.namespaces) (sym same) one
      by j q (inr e) = held.each j q e

  -- one process more
  held_push : (world : World) (process : Process) → All world → Held world.namespaces process → All (with_child world process)
  held_push world process held one = record {
    calls = held.calls;
    site = held.site;
    each = λ j q e. by j q (get_push world.processes j process q e);
  }
    where
      by : (j : ℕ) (q : Process) → (q ≡ process) ⊎ (slice_get world.processes j ≡ Some q) → Held world.namespaces q
      by j q (inl same) = subst (Held world.namespaces) (sym same) one
      by j q (inr e) = held.each j q e

  -- a shared table changed: all processes that have it see the new one
  under_put : (namespaces : List MountNamespace) (at : ℕ) (old : MountNamespace) (table : Table) (process : Process)
      → slice_get namespaces at ≡ Some old → TableIn (eqb old.owner 1) launch power below table → Held namespaces process
      → Held (slice_set namespaces at (with_other_table old table)) process
  under_put namespaces at old table process there allowed h =
      let changed = put_some_at namespaces at (process.namespace - 1) (with_other_table old table) h.space h.own in
      record {
        creds = h.creds;
        newer = h.newer;
        stack = h.stack;
        space = changed.0;
        numbered = h.numbered;
        own = changed.1;
        allowed = (by changed.0 changed.2).0;
        home = λ e. (by changed.0 changed.2).1 ∙ h.home e;
        made = h.made;
      }
    where
      by : (now : MountNamespace) → ((at ≡ process.namespace - 1) × (now ≡ with_other_table old table)) ⊎ (now ≡ h.space)
          → (TableIn (eqb now.owner 1) launch power below now.table) × (now.owner ≡ h.space.owner)
      by now (inl changed) =
          let one : old ≡ h.space = (let e : slice_get namespaces at ≡ Some h.space = ap (slice_get namespaces) changed.0 ∙ h.own in cc) in
          let P : MountNamespace → Type 0 = λ n. TableIn (eqb n.owner 1) launch power below n.table in
          (subst P (sym changed.1) allowed, ap (λ (n : MountNamespace). n.owner) (changed.1) ∙ ap (λ (n : MountNamespace). n.owner) one)
      by now (inr same) =
          let P : MountNamespace → Type 0 = λ n. TableIn (eqb n.owner 1) launch power below n.table in
          (subst P (sym same) h.allowed, ap (λ (n : MountNamespace). n.owner) same)

  -- the mount namespace of a process
  own_space : (world : World) (process : Process) (h : Held world.namespaces process) → namespace_of world process.namespace ≡ h.space
  own_space world process h = ap namespace_or (get_number world.namespaces process.namespace h.space h.numbered h.own)

  pub own_owner : (world : World) (process : Process) (h : Held world.namespaces process)
      → owner_of world process.namespace ≡ h.space.owner
  own_owner world process h = ap (λ (n : MountNamespace). n.owner) (own_space world process h)

  pub own_allowed : (world : World) (process : Process) (h : Held world.namespaces process)
      → TableIn (eqb h.space.owner 1) launch power below (mounts_of world process.namespace)
  own_allowed world process h = subst (TableIn (eqb h.space.owner 1) launch power below)
      (sym (ap (λ (n : MountNamespace). n.table) (own_space world process h))) h.allowed

  -- in the first user namespace it is a table of that
  pub first_allowed : (world : World) (process : Process) (h : Held world.namespaces process) → is_newer process ≡ false
      → CanHold power launch.table (mounts_of world process.namespace)
  first_allowed world process h first =
      let P : ℕ → Type 0 = λ o. TableIn (eqb o 1) launch power below (mounts_of world process.namespace) in
      subst P (h.home first) (own_allowed world process h)

  module _ (stable : IsStable launch power below) where
    -- a copy for a user namespace
    copy_allowed : (owner user : ℕ) (table : Table) → (eqb user 1 ≡ true → owner ≡ 1) → TableIn (eqb owner 1) launch power below table
        → TableIn (eqb user 1) launch power below (copied (not (eqb owner user)) table)
    copy_allowed owner user table home allowed = by (eqb user 1) refl (eqb owner user) refl
      where
        by_owner : (b : Bool) → eqb owner 1 ≡ b → TableIn b launch power below table → below (locked_copy table)
        by_owner true e h = stable.begins table h
        by_owner false e h = stable.copies table h

        by : (first : Bool) → eqb user 1 ≡ first → (same : Bool) → eqb owner user ≡ same
            → TableIn first launch power below (copied (not same) table)
        by true e true g = let P : ℕ → Type 0 = λ o. TableIn (eqb o 1) launch power below table in subst P (home e) allowed
        by true e false g =
            let one : owner ≡ user = home e ∙ sym (eqb-true user 1 e) in
            let on : eqb owner user ≡ true = eq-eqb owner user one in
            cc
        by false e true g =
            let one : owner ≡ user = eqb-true owner user g in
            let off : eqb owner 1 ≡ false = ap (λ o. eqb o 1) one ∙ e in
            let P : Bool → Type 0 = λ b. TableIn b launch power below table in
            subst P off allowed
        by false e false g = by_owner (eqb owner 1) refl allowed

    -- a mount namespace more
    under_push : (namespaces : List MountNamespace) (more : MountNamespace) (process : Process) → Held namespaces process
        → Held (namespaces ++ more ∷ []) process
    under_push namespaces more process h = record {
      creds = h.creds;
      newer = h.newer;
      stack = h.stack;
      space = h.space;
      numbered = h.numbered;
      own = push_some namespaces (process.namespace - 1) more h.space h.own;
      allowed = h.allowed;
      home = h.home;
      made = h.made;
    }

    abbrev copy_of : World → Process → MountNamespace
    copy_of world process = copy_for (namespace_of world process.namespace) process.user

    -- one mount namespace more, with the table of a process
    held_copy : (world : World) (process : Process) → All world → All (with_copy world process.namespace process.user)
    held_copy world process held = record {
      calls = held.calls;
      site = held.site;
      each = λ j q e. under_push world.namespaces (copy_of world process) q (held.each j q e);
    }

    first_home : (process : Process) (owner : ℕ) → (is_newer process ≡ false → owner ≡ 1) → eqb process.user 1 ≡ true → owner ≡ 1
    first_home process owner home e = home (ap not e)

    -- and the process there
    held_moved : (world : World) (process : Process) → Held world.namespaces process
        → Held (with_copy world process.namespace process.user).namespaces (moved_to process (length world.namespaces))
    held_moved world process h = record {
      creds = h.creds;
      newer = h.newer;
      stack = h.stack;
      space = copy_of world process;
      numbered = not_first (length world.namespaces);
      own = push_last world.namespaces (copy_of world process);
      allowed =
          let P : ℕ → Type 0 = λ o. TableIn (eqb process.user 1) launch power below (copied (not (eqb o process.user)) (mounts_of world process.namespace)) in
          subst P (sym (own_owner world process h))
          (copy_allowed h.space.owner process.user (mounts_of world process.namespace) (first_home process h.space.owner h.home)
          (own_allowed world process h));
      home = λ e. eqb-true process.user 1 (not-false (eqb process.user 1) e);
      made = h.made;
    }

    -- a child in a world that differs from the old one in no mount namespace
    held_child : (old world : World) (child : Process) (own : Bool) → All old → All world → Held world.namespaces child
        → All (child_in old world child own).1
    held_child old world child false before held h = held_push world child held h
    held_child old world child true before held h = by (nat_lt (length world.namespaces) most_namespaces)
      where
        by : (b : Bool) → All (cond {A = Reply × World} b (reply.Done (length world.processes + 1), with_child (with_copy world child.namespace child.user) (moved_to child (length world.namespaces))) (reply.Refused enospc, old)).1
        by true = held_push (with_copy world child.namespace child.user) (moved_to child (length world.namespaces))
            (held_copy world child held) (held_moved world child h)
        by false = before

    held_in : (old world : World) (pid : ℕ) (process : Process) (own : Bool) → All old → All world
        → Held world.namespaces process → All (moved_in old world pid process own).1
    held_in old world pid process false before held h = held_put world pid process held h
    held_in old world pid process true before held h = by (nat_lt (length world.namespaces) most_namespaces)
      where
        by : (b : Bool) → All (cond {A = Reply × World} b
            (reply.Done 0, with_process (with_copy world process.namespace process.user) pid (moved_to process (length world.namespaces)))
            (reply.Refused enospc, old)).1
        by true = held_put (with_copy world process.namespace process.user) pid (moved_to process (length world.namespaces))
            (held_copy world process held) (held_moved world process h)
        by false = before

    -- a user namespace more changes no process
    held_user : (world : World) → All world → All (with_user world)
    held_user world held = record { calls = held.calls; site = held.site; each = held.each }

    pub can_make_one : (world : World) → All world → lets launch (ForNamespace User) ≡ true → has_user_left world ≡ true
        → can_make_user launch ≡ true
    can_make_one world held user left =
        let some : nat_lt 0 world.site.user_namespaces ≡ true = above_some world.users world.site.user_namespaces left in
        and_from _ _ (ap (λ (s : Site). nat_lt 0 s.user_namespaces) (sym held.site) ∙ some) user
      where
        above_some : (a b : ℕ) → nat_lt a b ≡ true → nat_lt 0 b ≡ true
        above_some a b e = grind (arith, nat_tests)

    -- and the process in it
    held_entered : (world : World) (process : Process) → All world → Held world.namespaces process
        → lets launch (ForNamespace User) ≡ true → has_user_left world ≡ true
        → Held world.namespaces (entered_by process world.users)
    held_entered world process held h user left = record {
      creds = let P : Bool → Type 0 = λ b. KeepsIn b top (entered process.creds) in subst P (sym is_new) (ids-entered top process.creds (ids_of (is_newer process) top process.creds h.creds));
      newer = h.newer;
      stack = h.stack;
      space = h.space;
      numbered = h.numbered;
      own = h.own;
      allowed = h.allowed;
      home = λ e. let no' : true ≡ false = sym is_new ∙ e in cc;
      made = λ e. can_make_one world held user left;
    }
      where
        is_new : not (eqb (world.users + 2) 1) ≡ true
        is_new = ap not (not_one world.users)

    held_ended : (world : World) (pid : ℕ) (process : Process) → All world → Held world.namespaces process
        → All (with_process world pid (ended process))
    held_ended world pid process held h = held_put world pid (ended process) held
        (with_creds world.namespaces process (ended process) h h.creds refl refl refl)

    -- an effect that is safe leaves all held
    held_applied : (world : World) (pid : ℕ) (process : Process) (effect : Effect) → All world
        → (h : Held world.namespaces process) → IsSafe launch power top below (is_newer process) (eqb h.space.owner 1) effect
        → All (applied world pid process effect).1
    held_applied world pid process (f.Refuse errno) held h safe = held
    held_applied world pid process (f.Answer value) held h safe = held
    held_applied world pid process (f.SetCreds value creds) held h safe =
        held_put world pid (record process { creds = creds }) held
        (with_creds world.namespaces process (record process { creds = creds }) h safe refl refl refl)
    held_applied world pid process (f.SetTable table) held h safe = record {
      calls = held.calls;
      site = held.site;
      each = λ j q e. let P : MountNamespace → Type 0 = λ n. Held (slice_set world.namespaces (process.namespace - 1) (with_other_table n table)) q in subst P (sym (own_space world process h)) (under_put world.namespaces (process.namespace - 1) h.space table q h.own safe (held.each j q e));
    }
    held_applied world pid process (f.Push program) held h safe =
        held_put world pid (record process { stack = process.stack ++ program ∷ [] }) held (record {
          creds = h.creds;
          newer = h.newer ++ program ∷ [];
          stack = ap (λ (s : List (List Insn)). s ++ program ∷ []) h.stack ∙ append_assoc launch.stack h.newer (program ∷ []);
          space = h.space;
          numbered = h.numbered;
          own = h.own;
          allowed = h.allowed;
          home = h.home;
          made = h.made;
        })
    held_applied world pid process (f.Child own) held h safe = by (nat_lt (length world.processes) most_processes)
      where
        by : (b : Bool) → All (cond {A = Reply × World} b (child_of world process own) (reply.Refused eagain, world)).1
        by true = held_child world world process own held held h
        by false = held
    held_applied world pid process f.OwnTable held h safe = held_in world world pid process true held held h
    held_applied world pid process (f.UserChild own) held h safe =
        by (has_user_left world) refl (nat_lt (length world.processes) most_processes)
      where
        by : (b : Bool) → has_user_left world ≡ b → (c : Bool)
            → All (cond {A = Reply × World} b
            (cond {A = Reply × World} c (child_in world (with_user world) (entered_by process world.users) own)
            (reply.Refused eagain, world)) (reply.Refused enospc, world)).1
        by true e true = held_child world (with_user world) (entered_by process world.users) own held (held_user world held)
            (held_entered world process held h safe e)
        by true e false = held
        by false e c = held
    held_applied world pid process (f.OwnUser own) held h safe = by (has_user_left world) refl
      where
        by : (b : Bool) → has_user_left world ≡ b
            → All (cond {A = Reply × World} b (moved_in world (with_user world) pid (entered_by process world.users) own)
            (reply.Refused enospc, world)).1
        by true e = held_in world (with_user world) pid (entered_by process world.users) own held (held_user world held)
            (held_entered world process held h safe e)
        by false e = held
    held_applied world pid process f.End held h safe = held_ended world pid process held h

  module _ (filters : LetsThrough launch) where
    -- what a living process asks for, once its stack lets it through
    pub through_of : (world : World) (call : Call) (process : Process) → IsCall call → All world → Held world.namespaces process
        → decision_of world call process ≡ decision.Pass
        → (operation : Operation) → asked_of world.calls call ≡ Does operation → (kind : CallKind) → asks kind operation ≡ true → lets launch kind ≡ true
    through_of world call process fit held h passed operation is kind asked =
        let own : decision_on (launch.stack ++ h.newer) (data_at launch call.abi call.nr call.args) ≡ decision.Pass =
        ap (λ (c : calls.Table). decision_on (launch.stack ++ h.newer)
        (record { nr = call.nr; arch = calls.arch_of c call.abi; ip = 0; args = call.args })) (sym held.calls)
        ∙ ap (λ (s : List (List Insn)). decision_on s (data_of world call)) (sym h.stack) ∙ passed_on world call process passed in
        let same : asked_of launch.calls call ≡ Does operation = ap (λ (c : calls.Table). asked_of c call) (sym held.calls) ∙ is in
        filters.kinds h.newer call operation fit own same kind asked

    module _ (stable : IsStable launch power below) (uids gids : Bool) (closed : IsClosed launch uids gids power top) where
      -- what the process asks for, once its stack lets it through, uses only what may be used
      abbrev UsesIfLet : World → Call → Process → Type 0
      UsesIfLet world call process = is_newer process ≡ false → decision_of world call process ≡ decision.Pass → (operation : Operation)
          → asked_of world.calls call ≡ Does operation → Uses uids gids process.creds operation

      -- what a process asks for is safe, by its user namespace and by that which its mount namespace belongs to
      safe_of : (world : World) (call : Call) (process : Process) (held : All world) (h : Held world.namespaces process)
          → {operation : Operation} → ((kind : CallKind) → asks kind operation ≡ true → lets launch kind ≡ true)
          → (is_newer process ≡ false → Uses uids gids process.creds operation)
          → IsSafe launch power top below (is_newer process) (eqb h.space.owner 1) (effect_of (host_of world) (caller_of world process) operation)
      safe_of world call process held h {operation = operation} through uses =
          let P : Site → Type 0 = λ s. IsSafe launch power top below (is_newer process) (eqb h.space.owner 1) (effect_of (record { rows = row_at s.rows; families = world.calls.families; mdwe = has_mdwe s; rings = s.io_uring }) (caller_of world process) operation) in
          subst P (sym held.site) (by (is_newer process) refl h.creds (own_allowed world process h))
        where
          apart : is_newer process ≡ true → eqb (owner_of world process.namespace) process.user ≡ true → eqb h.space.owner 1 ≡ false
          apart new e =
              let same : owner_of world process.namespace ≡ process.user = eqb-true (owner_of world process.namespace) process.user e in
              let user : eqb process.user 1 ≡ false = not-true (eqb process.user 1) new in
              ap (λ o. eqb o 1) (sym (own_owner world process h) ∙ same) ∙ user

          by : (b : Bool) → is_newer process ≡ b → KeepsIn b top process.creds
              → TableIn (eqb h.space.owner 1) launch power below (mounts_of world process.namespace)
              → IsSafe launch power top below b (eqb h.space.owner 1) (effect_of (record { rows = row_at launch.site.rows; families = world.calls.families; mdwe = has_mdwe launch.site; rings = launch.site.io_uring }) (record { creds = process.creds; stack = process.stack; table = mounts_of world process.namespace; newer = b; owns = eqb (owner_of world process.namespace) process.user }) operation)
          by true new kept allowed =
              safe_newer launch power top below stable (eqb h.space.owner 1) (eqb (owner_of world process.namespace) process.user) (apart new)
              (mounts_of world process.namespace) allowed world.calls.families (has_mdwe launch.site) process.creds process.stack operation kept through closed.ring
          by false first kept allowed =
              let home : h.space.owner ≡ 1 = h.home first in
              let user : process.user ≡ 1 = eqb-true process.user 1 (not-false (eqb process.user 1) first) in
              let owns : eqb (owner_of world process.namespace) process.user ≡ true = eq-eqb (owner_of world process.namespace) process.user (own_owner world process h ∙ home ∙ sym user) in
              let P : Bool → Type 0 = λ o. IsSafe launch power top below false (eqb h.space.owner 1) (effect_of (record { rows = row_at launch.site.rows; families = world.calls.families; mdwe = has_mdwe launch.site; rings = launch.site.io_uring }) (record { creds = process.creds; stack = process.stack; table = mounts_of world process.namespace; newer = false; owns = o }) operation) in
              let Q : ℕ → Type 0 = λ o. IsSafe launch power top below false (eqb o 1) (effect_of (record { rows = row_at launch.site.rows; families = world.calls.families; mdwe = has_mdwe launch.site; rings = launch.site.io_uring }) (record { creds = process.creds; stack = process.stack; table = mounts_of world process.namespace; newer = false; owns = true }) operation) in
              subst P (sym owns) (subst Q (sym home)
              (safe_effect launch uids gids power top below closed world.calls.families (has_mdwe launch.site) process.creds process.stack
              (mounts_of world process.namespace) operation kept (first_allowed world process h first) through (uses first)))

      held_answered : (world : World) (call : Call) (process : Process) → IsCall call → All world → Held world.namespaces process
          → UsesIfLet world call process → decision_of world call process ≡ decision.Pass
          → (asked : Asked) → asked_of world.calls call ≡ asked → All (answered world call.pid process asked).1
      held_answered world call process fit held h uses passed Lacking is = held
      held_answered world call process fit held h uses passed Misformed is = held
      held_answered world call process fit held h uses passed (Does operation) is =
          held_applied stable world call.pid process (effect_of (host_of world) (caller_of world process) operation) held h
          (safe_of world call process held h (through_of world call process fit held h passed operation is)
          (λ first. uses first passed operation is))

      held_decided : (world : World) (call : Call) (process : Process) → IsCall call → All world → Held world.namespaces process
          → UsesIfLet world call process
          → (d : Decision) → decision_of world call process ≡ d → All (decided world call process d).1
      held_decided world call process fit held h uses decision.Pass e =
          held_answered world call process fit held h uses e (asked_of world.calls call) refl
      held_decided world call process fit held h uses (decision.Errno errno) e = held
      held_decided world call process fit held h uses decision.Kill e = held_ended stable world call.pid process held h

      held_by : (world : World) (call : Call) → IsCall call → All world
          → ((process : Process) → living_of world call.pid ≡ Some process → Held world.namespaces process
          → UsesIfLet world call process)
          → (o : Option Process) → living_of world call.pid ≡ o → All (step_by world call o).1
      held_by world call fit held uses None e = held
      held_by world call fit held uses (Some process) e =
          let h = held.each (call.pid - 1) process (lives world call.pid process e).place in
          held_decided world call process fit held h (uses process e h) (decision_of world call process) refl

      spared_step : (world : World) (call : Call) → IsCall call → Spares uids gids world call → All world → All (step world call).1
      spared_step world call fit spares held = held_by world call fit held
          (λ process e h first passed operation is. spares process operation e first is) (living_of world call.pid) refl

      pub spared_run : (list : List Call) (world : World) → AreCalls list → AllSpare uids gids world list → All world → All (run world list)
      spared_run [] world fit spares held = held
      spared_run (call ∷ list) world fit spares held = spared_run list (step world call).1 fit.1 spares.1
          (spared_step world call fit.0 spares.0 held)

    -- where each capability may be used by what passes, each call does
    module _ (stable : IsStable launch power below) (closed : IsClosed launch (lets launch TakesUid) (lets launch TakesGid) power top) where
      pub held_step : (world : World) (call : Call) → IsCall call → All world → All (step world call).1
      held_step world call fit held =
          held_by stable (lets launch TakesUid) (lets launch TakesGid) closed world call fit held
          (λ process e h first passed operation is. let let_through = through_of world call process fit held h passed operation is in ((λ asked has. let_through TakesUid asked), (λ asked has. let_through TakesGid asked))) (living_of world call.pid) refl

      pub held_run : (list : List Call) (world : World) → AreCalls list → All world → All (run world list)
      held_run [] world fit held = held
      held_run (call ∷ list) world fit held = held_run list (step world call).1 fit.1 (held_step world call fit.0 held)
