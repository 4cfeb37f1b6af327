-- A process enters a user namespace of its own, and what it can do there.
use Rattle.std.proofs.Common.{◌≡◌, ℕ, Bool, true, false, List, [], ◌∷◌, ◌++◌, Option, Some, Result, Ok, Err, refl, ap, ◌∙◌, sym, subst}
use Rattle.std.proofs.Common.{cond, arith, ◌<◌, map}
use Rattle.std.specs.Prelude.{◌^◌, ◌&&◌, not, nat_lt, slice_get, length}
use Rattle.launcher.specs.abs_path.Paths.{Path}
use Rattle.launcher.specs.call_table.declared.call_names.rule.CallRule.TheVariants as known
use Rattle.launcher.specs.cap_sets.Sets.{has, all, within, IsWithin}
use Rattle.launcher.proofs.OfCapSets.Members.{has_all, within-from_IsWithin}
use Rattle.launcher.specs.linux_numbers.Errnos.{eacces, eperm}
use Rattle.launcher.specs.site_table.declared.row.Row.{Row}
use Rattle.launcher.specs.site_table.Kinds.{is_exe}
use Rattle.launcher.specs.site_table.Table.{row_at}
use Rattle.launcher.specs.kern_creds.declared.creds.Creds.{Creds}
use Rattle.launcher.specs.kern_creds.Enter.{entered}
use Rattle.launcher.specs.kern_creds.Exec.{exec_done_in, is_refused}
use Rattle.launcher.specs.kern_mounts.Finds.{row, finds}
use Rattle.launcher.specs.kern_mounts.Split.{Table}
use Rattle.launcher.specs.kern_mounts.Mounts.{plain, steps_of}
use Rattle.launcher.proofs.OfKernMounts.Plain.{steps_plain}
use Rattle.launcher.specs.kernel_model.kern_files.Executing.{marks_of, executed_in, exec_answer_in}
use Rattle.launcher.specs.kernel_model.kern_files.Looking.{flags_at}
use Rattle.launcher.specs.kernel_model.kernel_calls.Calls.{IsCall, IsPath, FitsPayload}
use Rattle.launcher.specs.kernel_model.kernel_calls.Operation as d
use Rattle.launcher.specs.kernel_model.kernel_calls.Operation.{Operation, asked_by, asked_if, operation_by}
use Rattle.launcher.specs.kernel_model.declared.kernel_calls.call.Call.{Call}
use Rattle.launcher.specs.kernel_model.declared.kernel_calls.payload.Payload.{Payload}
use Rattle.launcher.specs.kernel_model.declared.kernel_calls.payload.Payload.TheVariants as pay
use Rattle.launcher.specs.kernel_model.declared.kernel_calls.rule.Rule.{Rule}
use Rattle.launcher.specs.kernel_model.declared.kernel_calls.rule.Rule.TheVariants as rule
use Rattle.launcher.specs.kernel_model.Effects as f
use Rattle.launcher.specs.kernel_model.Effects.{Effect, SetCreds, creds_effect, effect_of}
use Rattle.launcher.specs.kernel_model.Runs.{IsDone}
use Rattle.launcher.specs.kernel_model.Step.{step, applied, moved_in, child_in, most_namespaces, most_processes}
use Rattle.launcher.specs.kernel_model.World.{World, living_of, mounts_of, with_process, with_child, with_user, entered_by}
use Rattle.launcher.specs.kernel_model.declared.process.Process.{Process}
use Rattle.launcher.specs.kernel_model.declared.reply.Reply.{Reply}
use Rattle.launcher.specs.kernel_model.declared.reply.Reply.TheVariants as reply
use Rattle.launcher.specs.kernel_laws.Bound.{is_user}
use Rattle.launcher.specs.kernel_laws.Denied.{asks_space}
use Rattle.launcher.specs.linux_numbers.declared.namespaces.NamespaceType.{NamespaceType}
use Rattle.launcher.specs.kernel_laws.declared.question_types.wish.Wish.TheVariants.{Exec as ToExec}
use Rattle.launcher.specs.kernel_laws.declared.question_types.kind.CallKind.TheVariants as k
use Rattle.launcher.specs.linux_numbers.declared.namespaces.NamespaceType.TheVariants as namespace
use Rattle.launcher.specs.kernel_laws.Kinds.{AreWords, no_words, one_word, space_payload}
use Rattle.launcher.specs.kernel_laws.Launched.{Launch}
use Rattle.launcher.specs.linux_numbers.Namespaces.{flag_of}
use Rattle.launcher.specs.kernel_laws.Reach.{fits}
use Rattle.kernel_ways.specs.Entering.{pid_in, IsEntered, MakesIn, newer_at}
use Rattle.kernel_ways.specs.Showing.{IsDoable}
use Rattle.kernel_ways.specs.Ways.{CallAt, IsCallAt, IsSolo, Makes, host_at, caller_at, passes_at, place_of, rule_there, solo_world}
use Rattle.kernel_ways.specs.Ways.{solo_process}
use Rattle.kernel_ways.proofs.Choices as choices
use Rattle.kernel_ways.proofs.Lines.{Line, choice_of, flag_fits, flag_words, make, zeros, first_by}
use Rattle.kernel_ways.proofs.Solo.{steps, mounts_are}

-- every capability is had there
admin_inside : has all 21 ≡ true
admin_inside = has_all 21

-- ---- entering
module _ (launch : Launch) (some : nat_lt 0 launch.site.user_namespaces ≡ true) (creds : Creds) (table : Table) where
  -- a call after which a process is in a user namespace of its own
  pub record Enters (own : Rule) (call : Call) : Type 0 where
    pub operation : Operation
    pub effect : Effect
    pub makes : Makes launch creds table operation call effect
    pub such : asks_space namespace.User operation ≡ true
    pub pid : ℕ
    pub small : pid < 2 ^ 32
    pub pid_is : pid ≡ pid_in own
    pub inside : (after : World) → IsSolo launch creds table after
        → IsDone (step after call).0 × IsEntered launch (entered creds) table pid (step after call).1

  abbrev After : ℕ → Reply × World → Type 0
  After pid out = IsDone out.0 × IsEntered launch (entered creds) table pid out.1

  -- the process that entered it lives there
  is_inside : (pid namespace : ℕ) {world : World} → world.calls ≡ launch.calls → world.site ≡ launch.site
      → living_of world pid ≡ Some (entered_by (solo_process launch creds namespace) 0) → mounts_of world namespace ≡ map plain table
      → nat_lt (length world.namespaces) most_namespaces ≡ true → nat_lt (length world.processes) most_processes ≡ true
      → IsEntered launch (entered creds) table pid world
  is_inside pid namespace calls site lives own few fewer = record {
    calls = calls;
    site = site;
    process = entered_by (solo_process launch creds namespace) 0;
    lives = lives;
    has = refl;
    stack = refl;
    newer = refl;
    own = own;
    few = few;
    fewer = fewer;
  }

  by_unshare : (call : Call) → Makes launch creds table (d.Unshare (flag_of namespace.User)) call (f.OwnUser false) → (after : World)
      → IsSolo launch creds table after → After 1 (step after call)
  by_unshare call m after s =
      let own = solo_world launch creds s.namespace s.spaces in
      let P : World → Type 0 = λ w. After 1 (step w call) in
      let Q : Reply × World → Type 0 = λ out. After 1 out in
      let R : Bool → Type 0 = λ b. After 1 (cond {A = Reply × World} b (moved_in own (with_user own) 1 (entered_by (solo_process launch creds s.namespace) 0) false) (reply.Refused 28, own)) in
      subst P (sym s.is) (subst Q
      (sym (steps launch creds table s.namespace s.spaces s.numbered s.own s.few
      (d.Unshare (flag_of namespace.User)) call (f.OwnUser false) m))
      (subst R (sym some) (tt, is_inside 1 s.namespace refl refl refl (mounts_are launch creds table s.namespace s.spaces s.numbered s.own s.few (d.Unshare (flag_of namespace.User)) call (f.OwnUser false) m) s.few refl)))

  by_clone : (call : Call) → Makes launch creds table (d.Clone (flag_of namespace.User)) call (f.UserChild false) → (after : World)
      → IsSolo launch creds table after → After 2 (step after call)
  by_clone call m after s =
      let own = solo_world launch creds s.namespace s.spaces in
      let P : World → Type 0 = λ w. After 2 (step w call) in
      let Q : Reply × World → Type 0 = λ out. After 2 out in
      let R : Bool → Type 0 = λ b. After 2 (cond {A = Reply × World} b (child_in own (with_user own) (entered_by (solo_process launch creds s.namespace) 0) false) (reply.Refused 28, own)) in
      subst P (sym s.is) (subst Q
      (sym (steps launch creds table s.namespace s.spaces s.numbered s.own s.few
      (d.Clone (flag_of namespace.User)) call (f.UserChild false) m))
      (subst R (sym some) (tt, is_inside 2 s.namespace refl refl refl (mounts_are launch creds table s.namespace s.spaces s.numbered s.own s.few (d.Clone (flag_of namespace.User)) call (f.UserChild false) m) s.few refl)))

  enters_by : {own : Rule} {args : List ℕ} → (nr : CallAt) → IsCallAt nr → rule_there launch nr ≡ Some own → passes_at launch nr args
      → choices.Choice (k.ForNamespace namespace.User) own args → Enters own (first_by nr args (space_payload own namespace.User))
  enters_by nr n at t (choices.unshare _) =
      let m = make launch creds table nr (rule.Known known.Unshare) (one_word 0 (flag_of namespace.User)) pay.Nothing (d.Unshare (flag_of namespace.User)) (f.OwnUser false) n (flag_words namespace.User) tt at refl t refl in
      record { operation = d.Unshare (flag_of namespace.User); effect = f.OwnUser false; makes = m; such = refl; pid = 1; small = omega arith; pid_is = refl; inside = by_unshare (first_by nr (one_word 0 (flag_of namespace.User)) pay.Nothing) m }
  enters_by nr n at t (choices.clone _) =
      let m = make launch creds table nr (rule.Known known.Clone) (one_word 0 (flag_of namespace.User)) pay.Nothing (d.Clone (flag_of namespace.User)) (f.UserChild false) n (flag_words namespace.User) tt at refl t refl in
      record { operation = d.Clone (flag_of namespace.User); effect = f.UserChild false; makes = m; such = refl; pid = 2; small = omega arith; pid_is = refl; inside = by_clone (first_by nr (one_word 0 (flag_of namespace.User)) pay.Nothing) m }
  enters_by nr n at t (choices.clone3 _) =
      let m = make launch creds table nr (rule.Known known.Clone3) no_words (pay.Number (flag_of namespace.User)) (d.Clone (flag_of namespace.User)) (f.UserChild false) n zeros (flag_fits namespace.User) at refl t refl in
      record { operation = d.Clone (flag_of namespace.User); effect = f.UserChild false; makes = m; such = refl; pid = 2; small = omega arith; pid_is = refl; inside = by_clone (first_by nr no_words (pay.Number (flag_of namespace.User))) m }

  pub enters : (line : Line launch (k.ForNamespace namespace.User))
      → Enters line.own (first_by (place_of line.line) line.args (space_payload line.own namespace.User))
  enters line = enters_by (place_of line.line) line.number line.at line.through (choice_of line)

-- ---- one call inside
abbrev pub call_by : ℕ → CallAt → List ℕ → Payload → Call
call_by pid nr args payload = record { pid = pid; abi = nr.abi; nr = nr.nr; args = args; payload = payload }

module _ (launch : Launch) (creds : Creds) (table : Table) (pid : ℕ) (small : pid < 2 ^ 32) where
  make_in : (nr : CallAt) (own : Rule) (args : List ℕ) (payload : Payload) (operation : Operation) (effect : Effect) → IsCallAt nr → AreWords args
      → FitsPayload payload
      → rule_there launch nr ≡ Some own → operation_by own args payload ≡ Some operation → passes_at launch nr args
      → ((owns : Bool) → effect_of (host_at launch) (newer_at launch (entered creds) table owns) operation ≡ effect)
      → MakesIn launch (entered creds) table pid operation (call_by pid nr args payload) effect
  make_in nr own args payload operation effect n w p at is t e = record {
    fit = record { pid = small; abi = n.abi; nr = n.number; count = w.count; args = w.each; payload = p };
    by = refl;
    through = t;
    asks = ap (λ r. asked_by r (call_by pid nr args payload)) at ∙ ap asked_if is;
    comes_to = e;
  }

  -- a call inside that is done and asks for such a thing
  pub record Inside (p : Operation → Bool) (call : Call) : Type 0 where
    pub operation : Operation
    pub effect : Effect
    pub makes : MakesIn launch (entered creds) table pid operation call effect
    pub doable : IsDoable effect
    pub such : p operation ≡ true

  admits : (effect : Effect) → cond (has all 21) effect (f.Refuse eperm) ≡ effect
  admits effect = ap (λ b. cond b effect (f.Refuse eperm)) admin_inside

  in_space : (space : NamespaceType) (nr : CallAt) (own : Rule) (operation : Operation) (effect : Effect) → IsCallAt nr
      → rule_there launch nr ≡ Some own → passes_at launch nr (one_word 0 (flag_of space))
      → operation_by own (one_word 0 (flag_of space)) pay.Nothing ≡ Some operation
      → ((owns : Bool) → effect_of (host_at launch) (newer_at launch (entered creds) table owns) operation ≡ effect) → IsDoable effect
      → asks_space space operation ≡ true → Inside (asks_space space) (call_by pid nr (one_word 0 (flag_of space)) pay.Nothing)
  in_space space nr own operation effect n at t is e h such = record { operation = operation; effect = effect; makes = make_in nr own (one_word 0 (flag_of space)) pay.Nothing operation effect n (flag_words space) tt at is t e; doable = h; such = such }

  unshare_in : (space : NamespaceType) → is_user space ≡ false → (nr : CallAt) → IsCallAt nr
      → rule_there launch nr ≡ Some (rule.Known known.Unshare) → passes_at launch nr (one_word 0 (flag_of space))
      → Inside (asks_space space) (call_by pid nr (one_word 0 (flag_of space)) pay.Nothing)
  unshare_in namespace.Cgroup u nr n at t = in_space namespace.Cgroup nr (rule.Known known.Unshare) (d.Unshare (flag_of namespace.Cgroup))
      (f.Answer 0) n at t refl (λ owns. admits (f.Answer 0)) tt refl
  unshare_in namespace.Ipc u nr n at t = in_space namespace.Ipc nr (rule.Known known.Unshare) (d.Unshare (flag_of namespace.Ipc))
      (f.Answer 0) n at t refl (λ owns. admits (f.Answer 0)) tt refl
  unshare_in namespace.Net u nr n at t = in_space namespace.Net nr (rule.Known known.Unshare) (d.Unshare (flag_of namespace.Net))
      (f.Answer 0) n at t refl (λ owns. admits (f.Answer 0)) tt refl
  unshare_in namespace.Mnt u nr n at t = in_space namespace.Mnt nr (rule.Known known.Unshare)
      (d.Unshare (flag_of namespace.Mnt)) f.OwnTable n at t refl (λ owns. admits f.OwnTable) tt refl
  unshare_in namespace.Pid u nr n at t = in_space namespace.Pid nr (rule.Known known.Unshare) (d.Unshare (flag_of namespace.Pid))
      (f.Answer 0) n at t refl (λ owns. admits (f.Answer 0)) tt refl
  unshare_in namespace.User u nr n at t = cc
  unshare_in namespace.Uts u nr n at t = in_space namespace.Uts nr (rule.Known known.Unshare) (d.Unshare (flag_of namespace.Uts))
      (f.Answer 0) n at t refl (λ owns. admits (f.Answer 0)) tt refl

  clone_in : (space : NamespaceType) → is_user space ≡ false → (nr : CallAt) → IsCallAt nr
      → rule_there launch nr ≡ Some (rule.Known known.Clone) → passes_at launch nr (one_word 0 (flag_of space))
      → Inside (asks_space space) (call_by pid nr (one_word 0 (flag_of space)) pay.Nothing)
  clone_in namespace.Cgroup u nr n at t = in_space namespace.Cgroup nr (rule.Known known.Clone) (d.Clone (flag_of namespace.Cgroup))
      (f.Child false) n at t refl (λ owns. admits (f.Child false)) tt refl
  clone_in namespace.Ipc u nr n at t = in_space namespace.Ipc nr (rule.Known known.Clone) (d.Clone (flag_of namespace.Ipc))
      (f.Child false) n at t refl (λ owns. admits (f.Child false)) tt refl
  clone_in namespace.Net u nr n at t = in_space namespace.Net nr (rule.Known known.Clone) (d.Clone (flag_of namespace.Net))
      (f.Child false) n at t refl (λ owns. admits (f.Child false)) tt refl
  clone_in namespace.Mnt u nr n at t = in_space namespace.Mnt nr (rule.Known known.Clone) (d.Clone (flag_of namespace.Mnt))
      (f.Child true) n at t refl (λ owns. admits (f.Child true)) tt refl
  clone_in namespace.Pid u nr n at t = in_space namespace.Pid nr (rule.Known known.Clone) (d.Clone (flag_of namespace.Pid))
      (f.Child false) n at t refl (λ owns. admits (f.Child false)) tt refl
  clone_in namespace.User u nr n at t = cc
  clone_in namespace.Uts u nr n at t = in_space namespace.Uts nr (rule.Known known.Clone) (d.Clone (flag_of namespace.Uts))
      (f.Child false) n at t refl (λ owns. admits (f.Child false)) tt refl

  -- clone3(2) carries the flag
  in_clone3 : (space : NamespaceType) (nr : CallAt) (effect : Effect) → IsCallAt nr → rule_there launch nr ≡ Some (rule.Known known.Clone3)
      → passes_at launch nr no_words
      → ((owns : Bool) → effect_of (host_at launch) (newer_at launch (entered creds) table owns) (d.Clone (flag_of space)) ≡ effect)
      → IsDoable effect → asks_space space (d.Clone (flag_of space)) ≡ true
      → Inside (asks_space space) (call_by pid nr no_words (pay.Number (flag_of space)))
  in_clone3 space nr effect n at t e h such = record { operation = d.Clone (flag_of space); effect = effect; makes = make_in nr (rule.Known known.Clone3) no_words (pay.Number (flag_of space)) (d.Clone (flag_of space)) effect n zeros (flag_fits space) at refl t e; doable = h; such = such }

  clone3_in : (space : NamespaceType) → is_user space ≡ false → (nr : CallAt) → IsCallAt nr
      → rule_there launch nr ≡ Some (rule.Known known.Clone3) → passes_at launch nr no_words
      → Inside (asks_space space) (call_by pid nr no_words (pay.Number (flag_of space)))
  clone3_in namespace.Cgroup u nr n at t = in_clone3 namespace.Cgroup nr (f.Child false) n at t (λ owns. admits (f.Child false)) tt refl
  clone3_in namespace.Ipc u nr n at t = in_clone3 namespace.Ipc nr (f.Child false) n at t (λ owns. admits (f.Child false)) tt refl
  clone3_in namespace.Net u nr n at t = in_clone3 namespace.Net nr (f.Child false) n at t (λ owns. admits (f.Child false)) tt refl
  clone3_in namespace.Mnt u nr n at t = in_clone3 namespace.Mnt nr (f.Child true) n at t (λ owns. admits (f.Child true)) tt refl
  clone3_in namespace.Pid u nr n at t = in_clone3 namespace.Pid nr (f.Child false) n at t (λ owns. admits (f.Child false)) tt refl
  clone3_in namespace.User u nr n at t = cc
  clone3_in namespace.Uts u nr n at t = in_clone3 namespace.Uts nr (f.Child false) n at t (λ owns. admits (f.Child false)) tt refl

  space_in : {own : Rule} {args : List ℕ} → (space : NamespaceType) → is_user space ≡ false → (nr : CallAt) → IsCallAt nr
      → rule_there launch nr ≡ Some own → passes_at launch nr args → choices.Choice (k.ForNamespace space) own args
      → Inside (asks_space space) (call_by pid nr args (space_payload own space))
  space_in space u nr n at t (choices.unshare _) = unshare_in space u nr n at t
  space_in space u nr n at t (choices.clone _) = clone_in space u nr n at t
  space_in space u nr n at t (choices.clone3 _) = clone3_in space u nr n at t

  -- any other namespace
  pub own_space : (space : NamespaceType) → is_user space ≡ false → (line : Line launch (k.ForNamespace space))
      → Inside (asks_space space) (call_by pid (place_of line.line) line.args (space_payload line.own space))
  own_space space u line = space_in space u (place_of line.line) line.number line.at line.through (choice_of line)

  -- a program whose set is not within the bounding set of the launch
  module _ (path : Path) (fit : IsPath path) (target : Row) (found : finds (row_at launch.site.rows) table path ≡ row target) (exe : is_exe target.kind ≡ true) (runs : fits ToExec (flags_at table path) ≡ true) (known_caps : IsWithin target.caps all) where
    not_refused : is_refused (entered creds) (marks_of target) (flags_at table path).no_suid ≡ false
    not_refused = by (not (flags_at table path).no_suid && target.effective)
      where
        by : (b : Bool) → (b && not (within target.caps all)) ≡ false
        by true = ap not (within-from_IsWithin target.caps all known_caps)
        by false = refl

    abbrev pub after_run : Creds
    after_run = exec_done_in true (entered creds) (marks_of target) (flags_at table path).no_suid

    exec_is : creds_effect (exec_answer_in true (entered creds) (flags_at (steps_of (map plain table)) path)
        (finds (row_at launch.site.rows) (steps_of (map plain table)) path)) ≡ SetCreds 0 after_run
    exec_is = ap (λ (t : Table). creds_effect
        (exec_answer_in true (entered creds) (flags_at t path) (finds (row_at launch.site.rows) t path))) (steps_plain table)
        ∙ ap (λ x. creds_effect (exec_answer_in true (entered creds) (flags_at table path) x)) found
        ∙ by (is_exe target.kind) (flags_at table path).no_exec exe runs
      where
        by : (a b : Bool) → a ≡ true → not b ≡ true
            → creds_effect (executed_in true (entered creds)
            (cond (not a) (Err eacces)
            (cond b (Err eacces) (Ok (record { file = marks_of target; no_suid = (flags_at table path).no_suid })))))
            ≡ SetCreds 0 after_run
        by true false g h = ap (λ b. creds_effect (cond {A = Result Creds ℕ} b (Err eperm) (Ok after_run))) not_refused
        by true true g h = cc
        by false b g h = cc

    exec_by : {own : Rule} {args : List ℕ} → (nr : CallAt) → IsCallAt nr → rule_there launch nr ≡ Some own → passes_at launch nr args
        → choices.Choice (k.ForPath ToExec) own args → MakesIn launch (entered creds) table pid (d.Execve path)
        (call_by pid nr args (pay.OnePath path)) (SetCreds 0 after_run)
    exec_by nr n at t choices.execs = make_in nr (rule.Known known.Execve) no_words (pay.OnePath path) (d.Execve path)
        (SetCreds 0 after_run) n zeros fit at refl t (λ owns. exec_is)

    pub exec_inside : (line : Line launch (k.ForPath ToExec))
        → MakesIn launch (entered creds) table pid (d.Execve path) (call_by pid (place_of line.line) line.args (pay.OnePath path))
        (SetCreds 0 after_run)
    exec_inside line = exec_by (place_of line.line) line.number line.at line.through (choice_of line)
