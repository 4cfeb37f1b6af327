-- What a way gives is shown by its calls.
use Rattle.std.proofs.Common.{◌≡◌, ℕ, true, false, List, [], ◌∷◌, ◌++◌, Some, None, refl, ap, ◌∙◌, sym, subst, cond, length, eqb, zero, suc}
use Rattle.std.proofs.Common.{inl, inr, map, Option}
use Rattle.std.specs.Prelude.{slice_get, slice_set, nat_lt, ◌-◌}
use Rattle.launcher.specs.kern_creds.declared.creds.Creds.{Creds}
use Rattle.launcher.specs.kernel_model.declared.kernel_calls.call.Call.{Call}
use Rattle.launcher.specs.kernel_model.kernel_calls.Calls.{IsCall, AreCalls}
use Rattle.launcher.specs.kernel_laws.Denied.{LastIs, Shows, Reaches, Holds}
use Rattle.launcher.specs.kernel_model.kernel_calls.Operation.{Operation, Does, asked_by, asked_of}
use Rattle.launcher.specs.kernel_model.kernel_calls.Rules.{rule_at}
use Rattle.launcher.specs.call_table.Table.{Abi, abi_at}
use Rattle.launcher.specs.bpf_code.Stack.{decision_on}
use Rattle.launcher.specs.bpf_code.declared.decision.Decision.TheVariants.{Pass}
use Rattle.std.specs.Option.{option_map_or}
use Rattle.launcher.specs.kernel_model.kernel_calls.Operation as d
use Rattle.launcher.specs.kernel_model.Effects as f
use Rattle.launcher.specs.kernel_model.Effects.{Effect, Host, SetCreds, SetTable, effect_of, looks, creds_effect, table_effect, with_admin}
use Rattle.launcher.specs.kernel_model.Effects.{Caller, request_effect}
use Rattle.launcher.specs.kernel_model.declared.kernel_calls.request.Request.{Request}
use Rattle.launcher.specs.kernel_model.declared.kernel_calls.request.Request.TheVariants as ask
use Rattle.launcher.specs.linux_numbers.Errnos.{ebadf}
use Rattle.launcher.specs.kernel_laws.Launched.{Launch, data_at}
use Rattle.launcher.specs.bpf_code.declared.machine.Insn.{Insn}
use Rattle.launcher.specs.kern_mounts.Mounts.{Mounts, plain, steps_of}
use Rattle.launcher.specs.kern_mounts.Finds.{finds}
use Rattle.launcher.proofs.OfKernMounts.Plain.{steps_plain}
use Rattle.launcher.specs.kernel_model.kern_files.Executing.{exec_answer}
use Rattle.launcher.specs.kernel_model.kern_files.Looking.{flags_at, see_answer, write_answer, open_answer}
use Rattle.launcher.specs.kern_mounts.Split.{Table}
use Rattle.launcher.specs.kernel_laws.declared.question_types.question.Question.{Question}
use Rattle.launcher.specs.kernel_model.Runs.{Moment, moment_at, moments, run, IsDone, AllDone}
use Rattle.launcher.specs.kernel_model.MountNamespaces.{namespace_or, owned_by_first, with_other_table}
use Rattle.launcher.specs.kernel_model.World.{World, of_number, if_alive, namespace_of, mounts_of, owner_of}
use Rattle.launcher.specs.kernel_model.declared.mount_namespace.MountNamespace.{MountNamespace}
use Rattle.launcher.specs.kernel_model.declared.process.Process.{Process}
use Rattle.launcher.specs.kernel_model.declared.reply.Reply.{Reply}
use Rattle.launcher.specs.kernel_model.Step.{most_namespaces, step, step_by, decision_by, decided, answered, applied}
use Rattle.reach_paths.proofs.Processes.{put_own}
use Rattle.kernel_ways.specs.Showing.{IsDoable}
use Rattle.kernel_ways.specs.Ways.{effect_on, request_on, IsSolo, Way, here, by_creds, by_table, Makes, solo_world, solo_process, host_at}

-- by the entries alone, of a table that is not locked and keeps nothing
request_by : (host : Host) (creds : Creds) (stack : List (List Insn)) (table : Table) (request : Request)
    → request_effect host (record { creds = creds; stack = stack; table = map plain table; newer = false; owns = true }) request
    ≡ request_on host (record { creds = creds; stack = stack; table = map plain table; newer = false; owns = true }) table request
request_by host creds stack table (ask.Stat path) = ap (λ (t : Table). looks (see_answer 0 (finds host.rows t path))) (steps_plain table)
request_by host creds stack table (ask.Open path flags) =
    ap (λ (t : Table). looks (open_answer flags (flags_at t path) (finds host.rows t path))) (steps_plain table)
request_by host creds stack table (ask.Socket family) = refl
request_by host creds stack table (ask.Mode mode) = refl

effect_by : (host : Host) (creds : Creds) (stack : List (List Insn)) (table : Table) (operation : Operation)
    → effect_of host (record { creds = creds; stack = stack; table = map plain table; newer = false; owns = true }) operation
    ≡ effect_on host (record { creds = creds; stack = stack; table = map plain table; newer = false; owns = true }) table operation
effect_by host creds stack table (d.See path) = ap (λ (t : Table). looks (see_answer 0 (finds host.rows t path))) (steps_plain table)
effect_by host creds stack table (d.Open flags mode path) =
    ap (λ (t : Table). looks (open_answer flags (flags_at t path) (finds host.rows t path))) (steps_plain table)
effect_by host creds stack table (d.Create mode path) = ap (λ (t : Table). looks (write_answer 3 (flags_at t path) (finds host.rows t path)))
    (steps_plain table)
effect_by host creds stack table (d.Truncate path) = ap (λ (t : Table). looks (write_answer 0 (flags_at t path) (finds host.rows t path)))
    (steps_plain table)
effect_by host creds stack table (d.Execve path) =
    ap (λ (t : Table). creds_effect (exec_answer creds (flags_at t path) (finds host.rows t path))) (steps_plain table)
effect_by host creds stack table (d.Mount source target flags) = refl
effect_by host creds stack table (d.Umount path flags) = refl
effect_by host creds stack table (d.SetMode mode) = refl
effect_by host creds stack table (d.Map protection) = refl
effect_by host creds stack table (d.Protect protection) = refl
effect_by host creds stack table (d.Attach flags) = refl
effect_by host creds stack table (d.Schedule policy) = refl
effect_by host creds stack table (d.Personality persona) = refl
effect_by host creds stack table (d.SetAttributes policy) = refl
effect_by host creds stack table (d.Socket family) = refl
effect_by host creds stack table (d.Socketcall op family) = refl
effect_by host creds stack table (d.Socketpair family) = refl
effect_by host creds stack table d.Enter = refl
effect_by host creds stack table d.Fork = refl
effect_by host creds stack table (d.Clone flags) = refl
effect_by host creds stack table (d.Unshare flags) = refl
effect_by host creds stack table d.Exit = refl
effect_by host creds stack table (d.Setuid id) = refl
effect_by host creds stack table (d.Setgid id) = refl
effect_by host creds stack table (d.Setresuid r e s) = refl
effect_by host creds stack table (d.Setresgid r e s) = refl
effect_by host creds stack table (d.Setgroups ids) = refl
effect_by host creds stack table (d.Capset p e i) = refl
effect_by host creds stack table (d.Prctl option value third fourth fifth) = refl
effect_by host creds stack table (d.Seccomp op flags bytes) = refl
effect_by host creds stack table d.SetUpRing = refl
effect_by host creds stack table (d.Submit request) =
    ap (λ effect. cond creds.ring effect (f.Refuse ebadf)) (request_by host creds stack table request)
effect_by host creds stack table (d.Plain cap) = refl

pub way_join : {launch : Launch} {a b c : Creds} {s t u : Table} {xs ys : List Call} → Way launch a s xs b t → Way launch b t ys c u
    → Way launch a s (xs ++ ys) c u
way_join here q = q
way_join (by_creds call m more) q = by_creds call m (way_join more q)
way_join (by_table call m more) q = by_table call m (way_join more q)

put_length : {X : Type 0} (xs : List X) (i : ℕ) (y : X) → length (slice_set xs i y) ≡ length xs
put_length [] i y = refl
put_length (z ∷ xs) zero y = refl
put_length (z ∷ xs) (suc i) y = ap suc (put_length xs i y)

-- a call that its ABI has, and whose data pass, is let through
pub let_pass : (launch : Launch) (call : Call) (process : Process) (operation : Operation) → asked_of launch.calls call ≡ Does operation
    → decision_on process.stack (data_at launch call.abi call.nr call.args) ≡ Pass
    → decision_by call process (abi_at launch.calls call.abi) ≡ Pass
let_pass launch call process operation asks through = by (abi_at launch.calls call.abi) refl
  where
    by : (o : Option Abi) → abi_at launch.calls call.abi ≡ o → decision_by call process (abi_at launch.calls call.abi) ≡ Pass
    by None e = let none : asked_by (rule_at [] call.nr) call ≡ Does operation = ap (λ (o : Option Abi). asked_by (rule_at (option_map_or (λ found. found.calls) o []) call.nr) call) (sym e) ∙ asks in cc
    by (Some abi) e =
        ap (decision_by call process) e
        ∙ ap (λ (o : Option Abi). decision_on process.stack
        (record { nr = call.nr; arch = option_map_or (λ found. found.arch) o 0; ip = 0; args = call.args })) (sym e) ∙ through

module _ (launch : Launch) (creds : Creds) (table : Table) (namespace : ℕ) (spaces : List MountNamespace) (numbered : eqb namespace 0 ≡ false) (own : slice_get spaces (namespace - 1) ≡ Some (owned_by_first (map plain table))) (few : nat_lt (length spaces) most_namespaces ≡ true) (operation : Operation) (call : Call) (effect : Effect) (m : Makes launch creds table operation call effect) where
  abbrev own_world : World
  own_world = solo_world launch creds namespace spaces

  abbrev own_process : Process
  own_process = solo_process launch creds namespace

  pub space_is : namespace_of own_world namespace ≡ owned_by_first (map plain table)
  space_is = ap (λ b. namespace_or (cond b None (slice_get spaces (namespace - 1)))) numbered ∙ ap namespace_or own

  pub mounts_are : mounts_of own_world namespace ≡ map plain table
  mounts_are = ap (λ (n : MountNamespace). n.table) space_is

  owner_is : owner_of own_world namespace ≡ 1
  owner_is = ap (λ (n : MountNamespace). n.owner) space_is

  abbrev caller_with : Mounts → ℕ → Caller
  caller_with t o = record { creds = creds; stack = launch.stack; table = t; newer = false; owns = eqb o 1 }

  pub steps : step own_world call ≡ applied own_world 1 own_process effect
  steps =
      ap (λ (pid : ℕ). step_by own_world call (if_alive (of_number (own_process ∷ []) pid))) m.first
      ∙ ap (decided own_world call own_process) (let_pass launch call own_process operation m.asks m.through)
      ∙ ap (answered own_world call.pid own_process) m.asks
      ∙ ap (λ (pid : ℕ). applied own_world pid own_process
      (effect_of (host_at launch) (caller_with (mounts_of own_world namespace) (owner_of own_world namespace)) operation)) m.first
      ∙ ap (λ (t : Mounts). applied own_world 1 own_process
      (effect_of (host_at launch) (caller_with t (owner_of own_world namespace)) operation)) mounts_are
      ∙ ap (λ (o : ℕ). applied own_world 1 own_process (effect_of (host_at launch) (caller_with (map plain table) o) operation)) owner_is
      ∙ ap (applied own_world 1 own_process) (effect_by (host_at launch) creds launch.stack table operation ∙ m.comes_to)

  done_by : (e : Effect) → IsDoable e → IsDone (applied own_world 1 own_process e).0
  done_by (f.Refuse errno) h = absurd h
  done_by (f.Answer value) h = tt
  done_by (f.SetCreds value now) h = tt
  done_by (f.SetTable now) h = tt
  done_by (f.Push program) h = tt
  done_by (f.Child false) h = tt
  done_by (f.Child true) h = rw few tt
  done_by f.OwnTable h = rw few tt
  done_by (f.UserChild own) h = absurd h
  done_by (f.OwnUser own) h = absurd h
  done_by f.End h = tt

  is_done : IsDoable effect → IsDone (step own_world call).0
  is_done h = let P : Reply × World → Type 0 = λ r. IsDone r.0 in subst P (sym steps) (done_by effect h)

module _ (launch : Launch) (creds : Creds) (table : Table) (world : World) (s : IsSolo launch creds table world) (operation : Operation) (call : Call) where
  pub solo_done : (effect : Effect) → Makes launch creds table operation call effect → IsDoable effect → IsDone (step world call).0
  solo_done effect m h = let P : World → Type 0 = λ w. IsDone (step w call).0 in subst P (sym s.is) (is_done launch creds table s.namespace s.spaces s.numbered s.own s.few operation call effect m h)

  pub solo_creds : (value : ℕ) (now : Creds) → Makes launch creds table operation call (SetCreds value now) → IsSolo launch now table (step world call).1
  solo_creds value now m =
      let is = ap (λ (w : World). (step w call).1) s.is ∙ ap (λ (r : Reply × World). r.1) (steps launch creds table s.namespace s.spaces s.numbered s.own s.few operation call (SetCreds value now) m) in
      record { namespace = s.namespace; spaces = s.spaces; is = is; numbered = s.numbered; own = s.own; few = s.few }

  pub solo_table : (now : Table) → Makes launch creds table operation call (SetTable (map plain now))
      → IsSolo launch creds now (step world call).1
  solo_table now m =
      let own : World = solo_world launch creds s.namespace s.spaces in
      let next : MountNamespace = owned_by_first (map plain now) in
      let space = space_is launch creds table s.namespace s.spaces s.numbered s.own s.few operation call (SetTable (map plain now)) m in
      let is = ap (λ (w : World). (step w call).1) s.is ∙ ap (λ (r : Reply × World). r.1) (steps launch creds table s.namespace s.spaces s.numbered s.own s.few operation call (SetTable (map plain now)) m)
      ∙ ap (λ (n : MountNamespace). record own { namespaces = slice_set s.spaces (s.namespace - 1) (with_other_table n (map plain now)) }) space in
      record {
        namespace = s.namespace;
        spaces = slice_set s.spaces (s.namespace - 1) next;
        is = is;
        numbered = s.numbered;
        own = put_own s.spaces (s.namespace - 1) (owned_by_first (map plain table)) next s.own;
        few = ap (λ n. nat_lt n most_namespaces) (put_length s.spaces (s.namespace - 1) next) ∙ s.few;
      }

pub record WayRuns (launch : Launch) (creds : Creds) (table : Table) (world : World) (list : List Call) : Type 0 where
  pub fit : AreCalls list
  pub done : AllDone (moments world list)
  pub solo : IsSolo launch creds table (run world list)

pub way_runs : {launch : Launch} {a b : Creds} {s t : Table} {list : List Call} → Way launch a s list b t → (world : World)
    → IsSolo launch a s world → WayRuns launch b t world list
way_runs here world s = record { fit = tt; done = tt; solo = s }
way_runs {launch = launch} (by_creds call m more) world s =
    let rest = way_runs more _ (solo_creds launch _ _ world s _ call _ _ m) in
    record { fit = (m.fit, rest.fit); done = (solo_done launch _ _ world s _ call _ m tt, rest.done); solo = rest.solo }
way_runs {launch = launch} (by_table call m more) world s =
    let rest = way_runs more _ (solo_table launch _ _ world s _ call _ m) in
    record { fit = (m.fit, rest.fit); done = (solo_done launch _ _ world s _ call _ m tt, rest.done); solo = rest.solo }

-- ---- one call behind a way
pub run_behind : (world : World) (xs : List Call) (call : Call) (P : Moment → Type 0) → P (moment_at (run world xs) call)
    → LastIs P (moments world (xs ++ call ∷ []))
run_behind world [] call P h = h
run_behind world (x ∷ []) call P h = h
run_behind world (x ∷ y ∷ xs) call P h = run_behind (step world x).1 (y ∷ xs) call P h

pub done_behind : (world : World) (xs : List Call) (call : Call) → AllDone (moments world xs) → IsDone (step (run world xs) call).0
    → AllDone (moments world (xs ++ call ∷ []))
done_behind world [] call h d = (d, tt)
done_behind world (x ∷ xs) call h d = (h.0, done_behind (step world x).1 xs call h.1 d)

pub fit_behind : (xs : List Call) (call : Call) → AreCalls xs → IsCall call → AreCalls (xs ++ call ∷ [])
fit_behind [] call h d = (d, tt)
fit_behind (x ∷ xs) call h d = (h.0, fit_behind xs call h.1 d)

pub shows_last : {launch : Launch} {a b : Creds} {s t : Table} {xs : List Call} → Way launch a s xs b t → (world : World)
    → IsSolo launch a s world → (question : Question) (operation : Operation) (call : Call) (effect : Effect) → Makes launch b t operation call effect
    → IsDoable effect
    → ((now : World) → IsSolo launch b t now → IsDone (step now call).0 → Reaches question (moment_at now call))
    → Shows world question (xs ++ call ∷ [])
shows_last {launch = launch} {b = b} {t = t} {xs = xs} way world s question operation call effect m d reached =
    let w = way_runs way world s in
    let own = solo_done launch b t (run world xs) w.solo operation call effect m d in
    record {
      fit = fit_behind xs call w.fit m.fit;
      done = done_behind world xs call w.done own;
      last = inl (run_behind world xs call (Reaches question) (reached (run world xs) w.solo own));
    }

pub shows_held : {launch : Launch} {a b : Creds} {s t : Table} {xs : List Call} → Way launch a s xs b t → (world : World)
    → IsSolo launch a s world → (question : Question) → ((now : World) → IsSolo launch b t now → Holds question now)
    → Shows world question xs
shows_held {xs = xs} way world s question held =
    let w = way_runs way world s in
    record { fit = w.fit; done = w.done; last = inr (held (run world xs) w.solo) }
