-- What a process in a newer user namespace is done, and what it shows.
use Rattle.std.proofs.Common.{◌≡◌, ℕ, Bool, true, false, List, [], ◌∷◌, ◌++◌, Option, Some, None, refl, ap, ◌∙◌, sym, subst, cond, inl, eqb}
use Rattle.std.proofs.Common.{map}
use Rattle.std.specs.Prelude.{nat_lt, slice_get, length, not, ◌+◌}
use Rattle.launcher.specs.abs_path.Paths.{Path}
use Rattle.launcher.specs.bpf_code.declared.decision.Decision.TheVariants as decision
use Rattle.launcher.specs.bpf_code.declared.machine.Insn.{Insn}
use Rattle.launcher.specs.bpf_code.Stack.{decision_on}
use Rattle.launcher.specs.call_table.Table as calls
use Rattle.launcher.specs.call_table.Lookups.{numbered}
use Rattle.launcher.specs.site_table.Table.{Site, row_at}
use Rattle.launcher.specs.site_table.declared.row.Row.{Row}
use Rattle.launcher.specs.kern_creds.declared.creds.Creds.{Creds}
use Rattle.launcher.specs.kern_mounts.Finds.{row, finds}
use Rattle.launcher.specs.kern_mounts.Split.{Table}
use Rattle.launcher.specs.kern_mounts.Mounts.{Mounts, plain, steps_of}
use Rattle.launcher.proofs.OfKernMounts.Plain.{steps_plain}
use Rattle.launcher.specs.kernel_model.declared.kernel_calls.call.Call.{Call}
use Rattle.launcher.specs.kernel_model.kernel_calls.Operation.{Operation, Does, asked_of}
use Rattle.launcher.specs.kernel_model.Effects as f
use Rattle.launcher.specs.kernel_model.Effects.{Effect, effect_of}
use Rattle.launcher.specs.kernel_model.Runs.{moment_at, moments, run, IsDone}
use Rattle.launcher.specs.kernel_model.Step.{step, step_by, decided, answered, applied, decision_by, decision_of}
use Rattle.launcher.specs.kernel_model.World.{World, has_mdwe, living_of, mounts_of, table_of, owner_of, host_of, caller_of, is_newer}
use Rattle.launcher.specs.kernel_model.declared.process.Process.{Process}
use Rattle.launcher.specs.kernel_model.declared.reply.Reply.{Reply}
use Rattle.launcher.specs.kernel_laws.Denied.{path_for, ReachesRow, Performs, Reaches, asks_family, asks_space, asks_map, asks_protect}
use Rattle.launcher.specs.kernel_laws.Denied.{asks_attach, asks_realtime, asks_personality, asks_mode}
use Rattle.launcher.specs.kernel_laws.Launched.{Launch, data_at}
use Rattle.launcher.specs.kernel_laws.declared.question_types.wish.Wish.{Wish}
use Rattle.launcher.specs.kernel_laws.declared.question_types.question.Question.{Question}
use Rattle.launcher.specs.kernel_laws.declared.question_types.question.Question.TheVariants as asking
use Rattle.launcher.proofs.OfKernelLaws.Numbered.{lives}
use Rattle.kernel_ways.specs.Entering.{IsEntered, MakesIn, newer_at, CallsShowInside}
use Rattle.kernel_ways.specs.Showing.{IsDoable, Answers}
use Rattle.kernel_ways.specs.Ways.{host_at}
use Rattle.kernel_ways.proofs.Solo.{let_pass, way_runs, run_behind, done_behind, fit_behind}

module _ (launch : Launch) (creds : Creds) (table : Table) (pid : ℕ) (world : World) (e : IsEntered launch creds table pid world) where
  abbrev own : Process
  own = e.process

  done_by : (at : ℕ) (effect : Effect) → IsDoable effect → IsDone (applied world at own effect).0
  done_by at (f.Refuse errno) h = absurd h
  done_by at (f.Answer value) h = tt
  done_by at (f.SetCreds value now) h = tt
  done_by at (f.SetTable now) h = tt
  done_by at (f.Push program) h = tt
  done_by at (f.Child false) h = rw e.fewer tt
  done_by at (f.Child true) h = rw (e.fewer, e.few) tt
  done_by at f.OwnTable h = rw e.few tt
  done_by at (f.UserChild apart) h = absurd h
  done_by at (f.OwnUser apart) h = absurd h
  done_by at f.End h = tt

  module _ (operation : Operation) (call : Call) (effect : Effect) (m : MakesIn launch creds table pid operation call effect) where
    is_living : living_of world call.pid ≡ Some own
    is_living = ap (living_of world) m.by ∙ e.lives

    is_passed : decision_of world call own ≡ decision.Pass
    is_passed =
        ap (λ (c : calls.Table). decision_by call own (calls.abi_at c call.abi)) e.calls
        ∙ let_pass launch call own operation m.asks
        (ap (λ (s : List (List Insn)). decision_on s (data_at launch call.abi call.nr call.args)) e.stack ∙ m.through)

    is_asked : asked_of world.calls call ≡ Does operation
    is_asked = ap (λ (c : calls.Table). asked_of c call) e.calls ∙ m.asks

    abbrev owns : Bool
    owns = eqb (owner_of world own.namespace) own.user

    comes_to : effect_of (host_of world) (caller_of world own) operation ≡ effect
    comes_to =
        ap (λ (s : Site). effect_of (record { rows = row_at s.rows; families = world.calls.families; mdwe = has_mdwe s; rings = s.io_uring }) (caller_of world own) operation) e.site
        ∙ ap (λ (c : calls.Table). effect_of (record { rows = row_at launch.site.rows; families = c.families; mdwe = has_mdwe launch.site; rings = launch.site.io_uring })
        (caller_of world own) operation) e.calls
        ∙ ap (λ (c : Creds). effect_of (host_at launch)
        (record { creds = c; stack = own.stack; table = mounts_of world own.namespace; newer = is_newer own; owns = owns }) operation) e.has
        ∙ ap (λ (s : List (List Insn)). effect_of (host_at launch)
        (record { creds = creds; stack = s; table = mounts_of world own.namespace; newer = is_newer own; owns = owns }) operation) e.stack
        ∙ ap (λ (t : Mounts). effect_of (host_at launch)
        (record { creds = creds; stack = launch.stack; table = t; newer = is_newer own; owns = owns }) operation) e.own
        ∙ ap (λ (b : Bool). effect_of (host_at launch)
        (record { creds = creds; stack = launch.stack; table = map plain table; newer = b; owns = owns }) operation) e.newer
        ∙ m.comes_to owns

    steps : step world call ≡ applied world call.pid own effect
    steps =
        ap (step_by world call) is_living ∙ ap (decided world call own) is_passed ∙ ap (answered world call.pid own) is_asked
        ∙ ap (applied world call.pid own) comes_to

    pub inside_done : IsDoable effect → IsDone (step world call).0
    inside_done h = let P : Reply × World → Type 0 = λ r. IsDone r.0 in subst P (sym steps) (done_by call.pid effect h)

    own_table : table_of world own.namespace ≡ table
    own_table = ap (λ (t : Mounts). steps_of t) e.own ∙ steps_plain table

    performs : (p : Operation → Bool) → p operation ≡ true → IsDone (step world call).0 → Performs p (moment_at world call)
    performs p such done = record { done = done; operation = operation; is = is_asked; such = such }

    reaches_row : (wish : Wish) (place : ℕ) (target : Row) → slice_get launch.site.rows place ≡ Some target → (path : Path)
        → path_for wish operation ≡ Some path → finds (row_at launch.site.rows) table path ≡ row target → IsDone (step world call).0
        → ReachesRow wish place (moment_at world call)
    reaches_row wish place target listed path wanted found done = record {
      done = done;
      operation = operation;
      asks = is_asked;
      path = path;
      wanted = wanted;
      target = target;
      listed = ap (λ (s : Site). slice_get s.rows place) e.site ∙ listed;
      process = own;
      caller = (lives world call.pid own is_living).made;
      found = ap (λ (s : Site). finds (row_at s.rows) (table_of world own.namespace) path) e.site
          ∙ ap (λ (t : Table). finds (row_at launch.site.rows) t path) own_table ∙ found;
    }

    family_reached : (place : ℕ) → asks_family launch.calls.families place operation ≡ true → IsDone (step world call).0
        → Reaches (asking.Socket place) (moment_at world call)
    family_reached place such done =
        let P : calls.Table → Type 0 = λ t. asks_family t.families place operation ≡ true in
        performs (asks_family world.calls.families place) (subst P (sym e.calls) such) done

    pub inside_reached : (question : Question) → Answers launch table question call operation → IsDone (step world call).0
        → Reaches question (moment_at world call)
    inside_reached (asking.Path wish place) a done = reaches_row wish place a.1 a.3 a.0 a.2 a.4 done
    inside_reached (asking.Call place) a done = record {
      done = done;
      line = a.0;
      listed = ap (λ (c : calls.Table). slice_get (calls.every_call c) place) e.calls ∙ a.1;
      called = a.2;
      found = ap (λ (c : calls.Table). numbered call.nr (calls.calls_in c call.abi)) e.calls ∙ a.3;
      same = a.4;
    }
    inside_reached (asking.Socket place) a done = family_reached place a done
    inside_reached (asking.Namespace space) a done = performs (asks_space space) a done
    inside_reached asking.MapWx a done = performs asks_map a done
    inside_reached asking.ProtectX a done = performs asks_protect a done
    inside_reached asking.ShmX a done = performs asks_attach a done
    inside_reached asking.Realtime a done = performs asks_realtime a done
    inside_reached asking.Personality a done = performs asks_personality a done
    inside_reached asking.SuidBit a done = performs asks_mode a done
    inside_reached (asking.Cap number) a done = absurd a
    inside_reached (asking.Uid id) a done = absurd a
    inside_reached (asking.Gid id) a done = absurd a

-- ---- two calls behind a way
run_one : (world : World) (xs : List Call) (call : Call) → run world (xs ++ call ∷ []) ≡ (step (run world xs) call).1
run_one world [] call = refl
run_one world (x ∷ xs) call = run_one (step world x).1 xs call

pub calls_show_inside : CallsShowInside
calls_show_inside launch from to table now world calls question pid user last operation effect solo way fit enters m doable a =
    let w = way_runs way world solo in
    let u = enters (run world calls) w.solo in
    let entered' : IsEntered launch _ now pid (run world (calls ++ user ∷ [])) = subst (IsEntered launch _ now pid) (sym (run_one world calls user)) u.1 in
    let own = inside_done launch _ now pid (run world (calls ++ user ∷ [])) entered' operation last effect m doable in
    record {
      fit = fit_behind (calls ++ user ∷ []) last (fit_behind calls user w.fit fit) m.fit;
      done = done_behind world (calls ++ user ∷ []) last (done_behind world calls user w.done u.0) own;
      last = inl (run_behind world (calls ++ user ∷ []) last (Reaches question)
          (inside_reached launch _ now pid (run world (calls ++ user ∷ [])) entered' operation last effect m question a own));
    }
