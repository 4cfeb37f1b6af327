-- A launch on a site that differs below a folder alone which the launched service is blind to.
use Rattle.std.proofs.Common.{◌≡◌, ◌∙◌, ℕ, suc, Bool, true, false, cond, codes, List, [], ◌∷◌, ◌++◌, Option, Some, None, refl, ap, sym}
use Rattle.std.proofs.Common.{subst, length, arith, eqb}
use Rattle.std.specs.Prelude.{map, filter, not, ◌+◌}
use Rattle.std.specs.List.{AllByRecursion}
use Rattle.ceilings.specs.bpf_code.declared.machine.Insn.{Insn}
use Rattle.ceilings.specs.cap_sets.Sets.{has, union, cut, minus}
use Rattle.ceilings.specs.call_table.Table as calls
use Rattle.ceilings.specs.site_table.Table.{Site, row_at}
use Rattle.ceilings.specs.kern_creds.declared.creds.Creds.{Creds}
use Rattle.ceilings.specs.kern_mounts.Mounts.{steps_of}
use Rattle.ceilings.proofs.OfKernMounts.Plain.{steps_plain}
use Rattle.ceilings.specs.kern_mounts.Finds.{finds}
use Rattle.ceilings.specs.kern_mounts.Split.{Table}
use Rattle.ceilings.specs.kern_mounts.declared.step.MountStep.{MountStep}
use Rattle.ceilings.specs.kernel_model.declared.kernel_calls.payload.Payload.{Payload}
use Rattle.ceilings.specs.kernel_model.declared.kernel_calls.payload.Payload.TheVariants as pay
use Rattle.ceilings.specs.kernel_model.MountStep.{stepped_by}
use Rattle.ceilings.specs.kernel_model.Runs.{IsDone}
use Rattle.ceilings.specs.kernel_model.MountNamespaces.{namespace_or}
use Rattle.ceilings.specs.kernel_model.World.{World, start_world, living_of, table_of, of_number, if_alive}
use Rattle.ceilings.specs.kernel_model.declared.process.Process.{Process}
use Rattle.ceilings.specs.kernel_model.declared.reply.Reply.{Reply}
use Rattle.ceilings.specs.kernel_model.declared.reply.Reply.TheVariants as w
use Rattle.ceilings.specs.kernel_laws.Questions.{if_so, count_from}
use Rattle.ceilings.specs.launcher.Launch.{Wanted, LaunchStep, Makes, Mounts, Launched, PrivilegedProgram, makes, first_call, prctl_step}
use Rattle.ceilings.specs.launcher.Launch.{launch_step, launch_steps, launch_on, launch_from, is_privileged_row, mount_steps, with_unshare}
use Rattle.ceilings.specs.launcher.Launch.{if_user, has_flags, capbset_drop, cap_ambient, ambient_raise, set_mode_filter, identity_steps}
use Rattle.ceilings.specs.launcher.Launch.{filter_steps, program_steps, group_steps, drop_steps, inherit_steps, user_steps, raise_steps}
use Rattle.ceilings.specs.launcher.Launch.{left_steps, privilege_steps, memory_steps, give_up_steps, given_up_steps, last_steps, capset_step, held, with_held}
use Rattle.ceilings.specs.launcher.Launches.{HasLaunchCalls, Leaves}
use Rattle.ceilings.proofs.OfLauncher.HostRoot.{begins_at_host}
use Rattle.ceilings.proofs.OfLauncher.LaunchCalls.{launch_calls}
use Rattle.ceilings.proofs.OfLauncher.LaunchCreds.{IsReady}
use Rattle.ceilings.proofs.OfLauncher.LaunchWorld.{launch_leaves, left_behind, left_over, ready_at, filtered}
use Rattle.ceilings.proofs.OfLauncher.Leading.{Leads, launched_leads, leads_parts, append_assoc, append_parts}
use Rattle.ceilings.proofs.OfLauncher.Solo.{At}
use Rattle.ceilings.specs.mount_plan.Host.{host_of}
use Rattle.ceilings.proofs.OfPathSettings.ViewMapLists.{all_appended}
use Rattle.judge.specs.Worlds.{with_site, LaunchIsBlind}
use Rattle.judge.proofs.Runs.{FindsSame, PayloadSame, sited, step_sited, finds_same, not_shown, site_kept}

-- ---- steps that are all done make a launch
leads_launched : (world : World) (steps : List LaunchStep) (count : ℕ) (last : World) → Leads world steps last
    → launch_from world steps count ≡ Launched last (count + length steps)
leads_launched world [] count last l = let same : count ≡ count + 0 = omega arith in ap (λ (v : World). Launched v count) l ∙ ap (Launched last) same
leads_launched world (step ∷ steps) count last l = by (launch_step world step).0 refl l.0
    ∙ leads_launched (launch_step world step).1 steps (count + 1) last l.1 ∙ ap (Launched last) number
  where
    number : count + 1 + length steps ≡ count + suc (length steps)
    number = omega arith

    by : (reply : Reply) → (launch_step world step).0 ≡ reply → IsDone reply
        → launch_from world (step ∷ steps) count ≡ launch_from (launch_step world step).1 steps (count + 1)
    by (w.Done value) is done = ap (λ (r : Reply). launch_on r (count + 1) (launch_from (launch_step world step).1 steps (count + 1))) is
    by (w.Refused errno) is done = absurd done
    by w.Killed is done = absurd done

leads_join : (world : World) (first then : List LaunchStep) (mid last : World) → Leads world first mid → Leads mid then last
    → Leads world (first ++ then) last
leads_join world [] then mid last l m = subst (λ (v : World). Leads v then last) (sym l) m
leads_join world (step ∷ first) then mid last l m = (l.0, leads_join (launch_step world step).1 first then mid last l.1 m)

-- ---- steps that name no path
abbrev NoPath : Payload → Type 0
NoPath pay.Nothing = Unit {0}
NoPath (pay.OnePath path) = ⊥
NoPath (pay.TwoPaths source target) = ⊥
NoPath (pay.PathFlags path flags) = ⊥
NoPath (pay.Sets p e i) = Unit {0}
NoPath (pay.Ids ids) = Unit {0}
NoPath (pay.Number number) = Unit {0}
NoPath (pay.Code bytes) = Unit {0}
NoPath (pay.Ring request) = ⊥

abbrev NamesNone : LaunchStep → Type 0
NamesNone (Makes call) = NoPath call.payload
NamesNone (Mounts entry) = Unit {0}

all_map : {X Y : Type 0} (P : Y → Type 0) (f : X → Y) (xs : List X) → ((x : X) → P (f x)) → AllByRecursion P (map f xs)
all_map P f [] each = tt
all_map P f (x ∷ xs) each = (each x, all_map P f xs each)

all_if : {X : Type 0} (P : X → Type 0) (b : Bool) (x : X) → P x → AllByRecursion P (if_so b x)
all_if P true x p = (p, tt)
all_if P false x p = tt

module _ (site other : Site) where
  none_same : (payload : Payload) (table : Table) → NoPath payload → PayloadSame site other table payload
  none_same pay.Nothing table none = tt
  none_same (pay.OnePath path) table none = absurd none
  none_same (pay.TwoPaths source target) table none = absurd none
  none_same (pay.PathFlags path flags) table none = absurd none
  none_same (pay.Sets p e i) table none = tt
  none_same (pay.Ids ids) table none = tt
  none_same (pay.Number number) table none = tt
  none_same (pay.Code bytes) table none = tt
  none_same (pay.Ring request) table none = absurd none

  mounted_there : (world : World) (entry : MountStep) (o : Option Process)
      → stepped_by (with_site other world) entry o ≡ with_site other (stepped_by world entry o)
  mounted_there world entry None = refl
  mounted_there world entry (Some process) = refl

  mounted_site : (world : World) (entry : MountStep) (o : Option Process) → (stepped_by world entry o).site ≡ world.site
  mounted_site world entry None = refl
  mounted_site world entry (Some process) = refl

  step_there : (world : World) (step : LaunchStep) → world.site ≡ site → other.user_namespaces ≡ site.user_namespaces
      → other.systemd ≡ site.systemd → other.io_uring ≡ site.io_uring → NamesNone step
      → launch_step (with_site other world) step ≡ sited site other (launch_step world step)
  step_there world (Makes call) at spaces version rings none = step_sited site other world call at spaces version rings
      (λ process lives. none_same call.payload (table_of world process.namespace) none)
  step_there world (Mounts entry) at spaces version rings none = ap (λ (v : World). (w.Done 0, v)) (mounted_there world entry (living_of world 1))

  site_there : (world : World) (step : LaunchStep) → (launch_step world step).1.site ≡ world.site
  site_there world (Makes call) = site_kept world call
  site_there world (Mounts entry) = mounted_site world entry (living_of world 1)

  leads_there : (world last : World) (steps : List LaunchStep) → world.site ≡ site → other.user_namespaces ≡ site.user_namespaces
      → other.systemd ≡ site.systemd → other.io_uring ≡ site.io_uring
      → AllByRecursion NamesNone steps → Leads world steps last
      → Leads (with_site other world) steps (with_site other last) × (last.site ≡ site)
  leads_there world last [] at spaces version rings none l = (ap (with_site other) l, ap (λ (v : World). v.site) (sym l) ∙ at)
  leads_there world last (step ∷ steps) at spaces version rings none l =
      let there = step_there world step at spaces version rings none.0 in
      let more = leads_there (launch_step world step).1 last steps (site_there world step ∙ at) spaces version rings none.1 l.1 in
      ((subst (λ (out : Reply × World). IsDone out.0) (sym there) l.0, subst (λ (out : Reply × World). Leads out.1 steps (with_site other last)) (sym there) more.0), more.1)

-- ---- the steps before the program
module _ (lines : calls.Table) where
  none_mounts : (first : MountStep) (rest : Table) (b : Bool)
      → AllByRecursion NamesNone (with_unshare lines.calls (if_so b (Mounts first) ++ map Mounts rest))
  none_mounts first rest true = (tt, (tt, all_map NamesNone Mounts rest (λ entry. tt)))
  none_mounts first [] false = tt
  none_mounts first (entry ∷ rest) false = (tt, (tt, all_map NamesNone Mounts rest (λ entry. tt)))

  none_plan : (plan : Table) → AllByRecursion NamesNone (with_unshare lines.calls (mount_steps plan))
  none_plan [] = tt
  none_plan (first ∷ rest) = none_mounts first rest (has_flags first.flags)

  none_user : (uid : ℕ) (steps : List LaunchStep) → AllByRecursion NamesNone steps → AllByRecursion NamesNone (if_user uid steps)
  none_user uid steps all' = by (eqb uid 0)
    where
      by : (b : Bool) → AllByRecursion NamesNone (cond b [] steps)
      by true = tt
      by false = all'

  none_identity : (wanted : Wanted) → AllByRecursion NamesNone (identity_steps lines.calls wanted)
  none_identity wanted =
      let own = lines.calls in
      let grouped : AllByRecursion NamesNone (group_steps own wanted) = (tt, (tt, tt)) in
      let dropped = all_map NamesNone (λ cap. prctl_step own capbset_drop cap 0) (filter (λ cap. not (has (with_held wanted.keeps_capabilities wanted.bounding) cap)) (count_from 0 41)) (λ cap. tt) in
      let raised = all_map NamesNone (λ cap. prctl_step own cap_ambient ambient_raise cap) (filter (has wanted.ambient) (count_from 0 41)) (λ cap. tt) in
      let one = all_appended NamesNone (group_steps own wanted) (drop_steps own wanted) grouped dropped in
      let two = all_appended NamesNone (group_steps own wanted ++ drop_steps own wanted) (inherit_steps own wanted) one (tt, tt) in
      let three = all_appended NamesNone (group_steps own wanted ++ drop_steps own wanted ++ inherit_steps own wanted) (user_steps own wanted) two (none_user wanted.uid _ (tt, (tt, tt))) in
      let four = all_appended NamesNone (group_steps own wanted ++ drop_steps own wanted ++ inherit_steps own wanted ++ user_steps own wanted) (raise_steps own wanted) three raised in
      let five = all_appended NamesNone (group_steps own wanted ++ drop_steps own wanted ++ inherit_steps own wanted ++ user_steps own wanted ++ raise_steps own wanted) (left_steps own wanted) four (none_user wanted.uid _ (tt, tt)) in
      let six = all_appended NamesNone (group_steps own wanted ++ drop_steps own wanted ++ inherit_steps own wanted ++ user_steps own wanted ++ raise_steps own wanted ++ left_steps own wanted) (privilege_steps own wanted) five (all_if NamesNone wanted.no_new_privs _ tt) in
      all_appended NamesNone (group_steps own wanted ++ drop_steps own wanted ++ inherit_steps own wanted ++ user_steps own wanted ++
      raise_steps own wanted ++ left_steps own wanted ++ privilege_steps own wanted) (memory_steps own wanted) six (all_if NamesNone wanted.mdwe _ tt)

  none_given : (wanted : Wanted) → AllByRecursion NamesNone (give_up_steps lines.calls wanted)
  none_given wanted = by wanted.keeps_capabilities
    where
      dropped : AllByRecursion NamesNone (given_up_steps lines.calls (minus held wanted.bounding))
      dropped = all_map NamesNone (λ cap. prctl_step lines.calls capbset_drop cap 0)
          (filter (has (minus held wanted.bounding)) (count_from 0 41)) (λ cap. tt)

      by : (b : Bool) → AllByRecursion NamesNone (cond b (given_up_steps lines.calls (minus held wanted.bounding)
          ++ capset_step lines.calls wanted.ambient wanted.ambient (union wanted.ambient (cut held wanted.bounding)) ∷ []) [])
      by true = all_appended NamesNone (given_up_steps lines.calls (minus held wanted.bounding)) _ dropped (tt, tt)
      by false = tt

  none_filters : (programs : List (List ℕ)) → AllByRecursion NamesNone (filter_steps lines.calls programs)
  none_filters programs = all_map NamesNone (λ bytes. makes lines.calls (codes "seccomp") set_mode_filter 0 0 (pay.Code bytes)) programs
      (λ bytes. tt)

-- process 1 has the plan before its program runs
living_solo : (lines : calls.Table) (site : Site) (Q : Creds → Type 0) (stack : List (List Insn)) (plan : Table) (world : World)
    → At lines site Q stack plan world → (process : Process) → living_of world 1 ≡ Some process → table_of world process.namespace ≡ plan
living_solo lines site Q stack plan world at process lives =
    let own : Some _ ≡ Some process = sym (ap (λ (v : World). living_of v 1) at.is) ∙ lives in
    let number : process.namespace ≡ at.namespace = by process own in
    ap (table_of world) number ∙ ap (λ (v : World). table_of v at.namespace) at.is ∙ ap (λ o. steps_of (namespace_or o).table) at.own
    ∙ steps_plain plan
  where
    by : (process : Process) → ◌≡◌ {A = Option Process}
        (Some (record { creds = at.creds; stack = stack; namespace = at.namespace; user = 1; alive = true })) (Some process)
        → process.namespace ≡ at.namespace
    by process e = let same : record { creds = at.creds; stack = stack; namespace = at.namespace; user = 1; alive = true } ≡ process = cc in ap (λ (p : Process). p.namespace) (sym same)

-- what a launch leaves: process 1 lives, and has the plan as its table
pub record HasPlan (plan : Table) (last : World) : Type 0 where
  pub process : Process
  pub lives : living_of last 1 ≡ Some process
  pub own : table_of last process.namespace ≡ plan

pub has_plan : {lines : calls.Table} {site : Site} {wanted : Wanted} {plan : Table} {last : World} → Leaves lines site wanted plan last
    → HasPlan plan last
has_plan {plan = plan} l = record {
  process = record { creds = l.creds; stack = l.stack; namespace = l.namespace; user = 1; alive = true };
  lives = ap (λ (ps : List Process). if_alive (of_number ps 1)) l.alone;
  own = ap (λ o. steps_of (namespace_or o).table) l.own ∙ steps_plain plan;
}

abbrev before_filters : calls.Table → Wanted → Table → List LaunchStep
before_filters lines wanted plan = with_unshare lines.calls (mount_steps plan) ++ identity_steps lines.calls wanted

abbrev with_filters : calls.Table → Wanted → Table → List LaunchStep
with_filters lines wanted plan = before_filters lines wanted plan ++ filter_steps lines.calls wanted.programs

abbrev before_program : calls.Table → Wanted → Table → List LaunchStep
before_program lines wanted plan = with_filters lines wanted plan ++ give_up_steps lines.calls wanted

pub launch_is_blind : LaunchIsBlind
launch_is_blind folder lines site other wanted plan last steps whole can small keeps fit agree blind e =
    by (is_privileged_row (finds (row_at site.rows) plan wanted.program)) refl e
  where
    -- the program finds the same: the launched service is blind, and has the plan as its table
    same : FindsSame site other plan wanted.program
    same =
        let has = has_plan (launch_leaves lines site wanted plan last steps whole can small keeps e).0 in
        subst (λ (t : Table). FindsSame site other t wanted.program) has.own
        (finds_same folder site other agree (table_of last has.process.namespace) wanted.program
        (not_shown folder site other agree last 1 has.process wanted.program has.lives fit (blind [] tt)))

    joined : launch_steps lines.calls wanted plan ≡ before_program lines wanted plan ++ program_steps lines.calls wanted.program
    joined = sym (append_parts (with_unshare lines.calls (mount_steps plan)) (identity_steps lines.calls wanted)
        (filter_steps lines.calls wanted.programs) (last_steps lines.calls wanted))
        ∙ sym (append_assoc (with_filters lines wanted plan) (give_up_steps lines.calls wanted) (program_steps lines.calls wanted.program))

    by : (b : Bool) → is_privileged_row (finds (row_at site.rows) plan wanted.program) ≡ b
        → cond b (PrivilegedProgram wanted.program) (launch_from (start_world lines site) (launch_steps lines.calls wanted plan) 0)
        ≡ Launched last steps
        → cond (is_privileged_row (finds (row_at other.rows) plan wanted.program)) (PrivilegedProgram wanted.program)
        (launch_from (start_world lines other) (launch_steps lines.calls wanted plan) 0) ≡ Launched (with_site other last) steps
    by true is e = cc
    by false is e =
        let calls' : HasLaunchCalls lines.calls = launch_calls lines whole in
        let done = launched_leads (start_world lines site) (launch_steps lines.calls wanted plan) 0 last steps e in
        let parts = leads_parts (start_world lines site) (before_program lines wanted plan) (program_steps lines.calls wanted.program) last (subst (λ (list : List LaunchStep). Leads (start_world lines site) list last) joined done.0) in
        let given = leads_parts (start_world lines site) (with_filters lines wanted plan) (give_up_steps lines.calls wanted) parts.mid parts.before in
        let filters = leads_parts (start_world lines site) (before_filters lines wanted plan) (filter_steps lines.calls wanted.programs) given.mid given.before in
        let ready = ready_at lines site calls' wanted plan filters.mid (begins_at_host (host_of site) plan can) small filters.before in
        let pushed = filtered lines site calls' [] plan (IsReady wanted.uid wanted.ambient (with_held wanted.keeps_capabilities wanted.ambient)) wanted.programs [] filters.mid given.mid ready filters.after in
        let left' = left_behind lines site calls' pushed.codes' plan wanted keeps given.mid parts.mid pushed.at given.after in
        let none = all_appended NamesNone (before_filters lines wanted plan) (filter_steps lines.calls wanted.programs) (all_appended NamesNone (with_unshare lines.calls (mount_steps plan)) (identity_steps lines.calls wanted) (none_plan lines plan) (none_identity lines wanted)) (none_filters lines wanted.programs) in
        let all_none = all_appended NamesNone (with_filters lines wanted plan) (give_up_steps lines.calls wanted) none (none_given lines wanted) in
        let there = leads_there site other (start_world lines site) parts.mid (before_program lines wanted plan) refl agree.spaces agree.systemd agree.io_uring all_none parts.before in
        let stepped = step_sited site other parts.mid (first_call lines.calls (codes "execve") (0 ∷ 0 ∷ 0 ∷ 0 ∷ 0 ∷ 0 ∷ []) (pay.OnePath wanted.program)) there.1 agree.spaces agree.systemd agree.io_uring
        (λ process lives. subst (λ (t : Table). FindsSame site other t wanted.program) (sym (living_solo lines site (IsReady wanted.uid wanted.ambient (left_over lines site calls' wanted)) pushed.codes' plan parts.mid left'.at process lives)) same) in
        let exec : Leads (with_site other parts.mid) (program_steps lines.calls wanted.program) (with_site other last) =
        (subst (λ (out : Reply × World). IsDone out.0) (sym stepped) parts.after.0, ap (λ (out : Reply × World). out.1) stepped ∙ ap (with_site other) parts.after.1) in
        let there' = leads_join (start_world lines other) (before_program lines wanted plan) (program_steps lines.calls wanted.program) (with_site other parts.mid) (with_site other last) there.0 exec in
        let all' : Leads (start_world lines other) (launch_steps lines.calls wanted plan) (with_site other last) = subst (λ (list : List LaunchStep). Leads (start_world lines other) list (with_site other last)) (sym joined) there' in
        let number : 0 + length (launch_steps lines.calls wanted plan) ≡ steps = sym done.1 in
        ap (λ (b : Bool). cond b (PrivilegedProgram wanted.program)
        (launch_from (start_world lines other) (launch_steps lines.calls wanted plan) 0)) (ap is_privileged_row same ∙ is)
        ∙ leads_launched (start_world lines other) (launch_steps lines.calls wanted plan) 0 (with_site other last) all'
        ∙ ap (Launched (with_site other last)) number
