-- How a launch ends does not rest on which programs the filters are.
use Rattle.std.proofs.Common.{◌≡◌, ℕ, suc, Bool, true, false, cond, codes, List, [], ◌∷◌, ◌++◌, Option, Some, ◌⊎◌, inl, inr, refl, ap, ◌∙◌}
use Rattle.std.proofs.Common.{sym, subst, length, arith}
use Rattle.std.specs.Prelude.{nat_le, map, filter, ◌+◌, ◌<◌, ◌≤◌, ◌^◌, ◌%◌, ◌||◌, not}
use Rattle.std.specs.List.{AllByRecursion}
use Rattle.std.proofs.lemmas.Bool.Decides.{nat_tests}
use Rattle.std.proofs.lemmas.List.Sums.{sum_by-append, sum_by-cons}
use Rattle.exec_settings.specs.abs_path.Paths.{Path}
use Rattle.kernel_laws.specs.bpf_code.declared.machine.Insn.{Insn}
use Rattle.kernel_laws.specs.bpf_code.declared.machine.CallData.{CallData}
use Rattle.kernel_laws.specs.bpf_code.declared.decision.Decision.{Decision}
use Rattle.kernel_laws.specs.bpf_code.declared.decision.Decision.TheVariants as decision
use Rattle.kernel_laws.specs.bpf_code.Meaning.{IsCallData}
use Rattle.kernel_laws.specs.bpf_code.ProgramOf.{program_of}
use Rattle.kernel_laws.specs.bpf_code.Stack.{answer_of, decision_by, deciding, decision_on, room_of}
use Rattle.exec_settings.specs.cap_sets.Sets.{has, union, cut, minus}
use Rattle.kernel_laws.specs.call_table.Facts.{IsWhole}
use Rattle.kernel_laws.specs.call_table.Table as calls
use Rattle.exec_settings.specs.site_table.Table.{Site, row_at}
use Rattle.kernel_laws.specs.kern_creds.declared.creds.Creds.{Creds}
use Rattle.kernel_laws.specs.kern_mounts.Finds.{finds}
use Rattle.kernel_laws.specs.kernel_model.declared.kernel_calls.call.Call.{Call}
use Rattle.kernel_laws.specs.kernel_model.declared.kernel_calls.payload.Payload.{Payload}
use Rattle.kernel_laws.specs.kernel_model.declared.kernel_calls.payload.Payload.TheVariants.{Nothing, OnePath, Sets, Code}
use Rattle.kernel_laws.specs.kernel_model.declared.kernel_calls.rule.Rule.{Rule}
use Rattle.kernel_laws.specs.kernel_model.kernel_calls.Operation as d
use Rattle.kernel_laws.specs.kernel_model.kernel_calls.Operation.{Operation, Asked, Does, asked_of, asked_by}
use Rattle.kernel_laws.specs.kernel_model.Effects as f
use Rattle.kernel_laws.specs.kernel_model.Effects.{Effect, push_effect}
use Rattle.launcher.specs.Launch.{Wanted, LaunchStep, Makes, Mounts, LaunchOutcome, StepRefused, StepKilled, PrivilegedProgram, first_call, number_of}
use Rattle.launcher.specs.Launch.{launch_step, launch_steps, launch_on, launch_from, is_privileged_row, mount_steps, with_unshare}
use Rattle.launcher.specs.Launch.{identity_steps, filter_steps, program_steps, last_steps, give_up_steps, given_up_steps, prctl_step, capset_step}
use Rattle.launcher.specs.Launch.{capbset_drop, held}
use Rattle.kernel_laws.specs.kernel_model.declared.mount_namespace.MountNamespace.{MountNamespace}
use Rattle.kernel_laws.specs.kern_mounts.Split.{Table}
use Rattle.kernel_laws.specs.kernel_model.Runs.{IsDone}
use Rattle.kernel_laws.specs.kernel_model.declared.reply.Reply.TheVariants as w
use Rattle.kernel_laws.specs.kernel_model.World.{World, start_world}
use Rattle.kernel_laws.specs.kernel_model.declared.reply.Reply.{Reply}
use Rattle.kernel_laws.specs.kernel_model.Step.{step, applied, answered, decided}
use Rattle.launcher.specs.Alike.{HasWordArchs, AnswerAlike, above}
use Rattle.launcher.specs.Launches.{HasLaunchCalls, AreRead}
use Rattle.launcher.specs.LaunchesAlike.{EndAlike, LaunchesAlike}
use Rattle.launcher.proofs.Solo.{solo, only}
use Rattle.launcher.proofs.LaunchData.{fits, fits_two}
use Rattle.launcher.proofs.LaunchCalls.{launch_calls}
use Rattle.launcher.proofs.Leading.{Leads, append_assoc, append_none, append_split}
use Rattle.launcher.proofs.LaunchWorld.{ready_at}
use Rattle.launcher.proofs.RaisedAll.{counted_small, filter_keeps}
use Rattle.kernel_laws.specs.Questions.{count_from}
use Rattle.launcher.proofs.HostRoot.{begins_at_host}
use Rattle.mount_plan.specs.Host.{host_of as site_host}
use Rattle.launcher.proofs.Alike.{own_alike, own_step, lifted, step_above, calls_kept, same_answers, FullInOne}
use Rattle.kernel_laws.specs.linux_numbers.Errnos.{eacces, enomem}
use Rattle.kernel_laws.specs.linux_numbers.Limits.{max_insns_per_path}
use Rattle.kernel_laws.specs.linux_numbers.Capabilities.{cap_sys_admin}

-- a list of steps either stops, whatever follows it, or is done
data Begun (world : World) (first : List LaunchStep) (count : ℕ) : Type 0 where
  refuses : (at errno : ℕ) → ((then : List LaunchStep) → launch_from world (first ++ then) count ≡ StepRefused at errno)
      → Begun world first count
  kills : (at : ℕ) → ((then : List LaunchStep) → launch_from world (first ++ then) count ≡ StepKilled at) → Begun world first count
  goes : (mid : World) → Leads world first mid
      → ((then : List LaunchStep) → launch_from world (first ++ then) count ≡ launch_from mid then (count + length first))
      → Begun world first count

begun : (world : World) (first : List LaunchStep) (count : ℕ) → Begun world first count
begun world [] count = goes world refl (λ then. let same : count ≡ count + 0 = omega arith in ap (launch_from world then) same)
begun world (step' ∷ first) count = by (launch_step world step').0 refl (begun (launch_step world step').1 first (count + 1))
  where
    next : World
    next = (launch_step world step').1

    at : (reply : Reply) → (launch_step world step').0 ≡ reply → (then : List LaunchStep)
        → launch_from world (step' ∷ first ++ then) count ≡ launch_on reply (count + 1)
        (launch_from (launch_step world step').1 (first ++ then) (count + 1))
    at reply is then = ap (λ (r : Reply). launch_on r (count + 1) (launch_from (launch_step world step').1 (first ++ then) (count + 1))) is

    by : (reply : Reply) → (launch_step world step').0 ≡ reply → Begun (launch_step world step').1 first (count + 1)
        → Begun world (step' ∷ first) count
    by (w.Refused errno) is more = refuses (count + 1) errno (λ then. at (w.Refused errno) is then)
    by w.Killed is more = kills (count + 1) (λ then. at w.Killed is then)
    by (w.Done value) is (refuses place errno stop) = refuses place errno (λ then. at (w.Done value) is then ∙ stop then)
    by (w.Done value) is (kills place stop) = kills place (λ then. at (w.Done value) is then ∙ stop then)
    by (w.Done value) is (goes mid done on) =
        goes mid (subst IsDone (sym is) tt, done) (λ then. let same : count + 1 + length first ≡ count + suc (length first) = omega arith in at (w.Done value) is then ∙ on then ∙ ap (launch_from mid then) same)

same_end : (one one' other other' : List (List Insn)) (x y : LaunchOutcome) → one ≡ one' → other ≡ other' → EndAlike one other x y
    → EndAlike one' other' x y
same_end one one' other other' x y e e' h = subst (λ (s : List (List Insn)). EndAlike s other' x y) e
    (subst (λ (s : List (List Insn)). EndAlike one s x y) e' h)

same_ends : (one other : List (List Insn)) (x x' y y' : LaunchOutcome) → x ≡ x' → y ≡ y' → EndAlike one other x' y' → EndAlike one other x y
same_ends one other x x' y y' e e' h = subst (λ (z : LaunchOutcome). EndAlike one other z y) (sym e)
    (subst (λ (z : LaunchOutcome). EndAlike one other x' z) (sym e') h)

pushed_alike : (one other : List (List Insn)) (code own : List Insn) → AnswerAlike one other
    → ((input : CallData) → IsCallData input → answer_of code input ≡ answer_of own input)
    → AnswerAlike (one ++ code ∷ []) (other ++ own ∷ [])
pushed_alike [] [] code own alike same = (same, tt)
pushed_alike [] (x ∷ other) code own alike same = absurd alike
pushed_alike (x ∷ one) [] code own alike same = absurd alike
pushed_alike (x ∷ one) (y ∷ other) code own alike same = (alike.0, pushed_alike one other code own alike.1 same)

module _ (table : calls.Table) (site : Site) (whole : IsWhole table) (arch : HasWordArchs table) where
  calls' : HasLaunchCalls table.calls
  calls' = launch_calls table whole

  -- ---- steps that push no program
  -- a call that filters can look at, and that is no seccomp(2)
  pub record IsOther (call : Call) : Type 0 where
    pub fit : IsCallData (record { nr = call.nr; arch = calls.arch_of table call.abi; ip = 0; args = call.args })
    pub other : (op flags : ℕ) (bytes : List ℕ) → asked_of table call ≡ Does (d.Seccomp op flags bytes) → ⊥

  abbrev pub IsOtherStep : LaunchStep → Type 0
  IsOtherStep (Makes call) = IsOther call
  IsOtherStep (Mounts entry) = ⊥

  others_alike : (one other : List (List Insn)) (steps : List LaunchStep) (base : World) (count : ℕ) → AnswerAlike one other
      → base.calls ≡ table → AllByRecursion IsOtherStep steps
      → EndAlike one other (launch_from (above one base) steps count) (launch_from (above other base) steps count)
  others_alike one other [] base count alike here all' = (refl, base, refl, refl)
  others_alike one other (Mounts entry ∷ steps) base count alike here all' = absurd all'.0
  others_alike one other (Makes call ∷ steps) base count alike here all' =
      by (own_alike one other base call alike fit) (λ next same. others_alike one other steps next (count + 1) alike same all'.1)
    where
      fit : IsCallData (record { nr = call.nr; arch = calls.arch_of base.calls call.abi; ip = 0; args = call.args })
      fit = subst (λ (t : calls.Table). IsCallData (record { nr = call.nr; arch = calls.arch_of t call.abi; ip = 0; args = call.args }))
          (sym here) all'.0.fit

      E : Reply × World → Reply × World → Type 0
      E x y = EndAlike one other (launch_on x.0 (count + 1) (launch_from x.1 steps (count + 1)))
          (launch_on y.0 (count + 1) (launch_from y.1 steps (count + 1)))

      More : Type 0
      More = (next : World) → next.calls ≡ table
          → EndAlike one other (launch_from (above one next) steps (count + 1)) (launch_from (above other next) steps (count + 1))

      ends : (out : Reply × World) → (out.1).calls ≡ table → More → E (lifted one out) (lifted other out)
      ends out kept more = by_reply out.0
        where
          by_reply : (r : Reply) → EndAlike one other (launch_on r (count + 1) (launch_from (above one out.1) steps (count + 1)))
              (launch_on r (count + 1) (launch_from (above other out.1) steps (count + 1)))
          by_reply (w.Done value) = more out.1 kept
          by_reply (w.Refused errno) = (refl, refl)
          by_reply w.Killed = refl

      by : (own_step one base call ≡ own_step other base call) ⊎ FullInOne base.calls call
          (own_step one base call).0 (own_step other base call).0 → More
          → E (step (above one base) call) (step (above other base) call)
      by (inr full) more = absurd
          (all'.0.other full.op full.flags full.bytes (sym (ap (λ (t : calls.Table). asked_of t call) here) ∙ full.asks))
      by (inl same) more =
          subst (λ (x : Reply × World). E x (step (above other base) call)) (sym (step_above one base call))
          (subst (λ (y : Reply × World). E (lifted one (own_step one base call)) y)
          (sym (step_above other base call ∙ ap (lifted other) (sym same)))
          (ends (own_step one base call) (calls_kept one base call ∙ here) more))

  -- the last steps of a launch are such steps
  is_other : (name : List ℕ) (args : List ℕ) (payload : Payload) (operation : Operation)
      → IsCallData (record { nr = number_of table.calls name; arch = table.arch; ip = 0; args = args })
      → asked_of table (first_call table.calls name args payload) ≡ Does operation
      → ((op flags : ℕ) (bytes : List ℕ) → ◌≡◌ {A = Asked} (Does operation) (Does (d.Seccomp op flags bytes)) → ⊥)
      → IsOther (first_call table.calls name args payload)
  is_other name args payload operation looked asks differs =
      record { fit = looked; other = λ op flags bytes e. differs op flags bytes (sym asks ∙ e) }

  other_exec : (program : Path) → AllByRecursion IsOtherStep (program_steps table.calls program)
  other_exec program =
      let call : Call = first_call table.calls (codes "execve") (0 ∷ 0 ∷ 0 ∷ 0 ∷ 0 ∷ 0 ∷ []) (OnePath program) in (
        is_other (codes "execve") (0 ∷ 0 ∷ 0 ∷ 0 ∷ 0 ∷ 0 ∷ []) (OnePath program) (d.Execve program)
            (fits table whole arch (codes "execve") 0 (omega arith)) (ap (λ (o : Option Rule). asked_by o call) calls'.execve)
            (λ op flags bytes e. cc),
        tt,
      )

  other_capset : (p e i : ℕ) → IsOtherStep (capset_step table.calls p e i)
  other_capset p e i =
      let call : Call = first_call table.calls (codes "capset") (0 ∷ 0 ∷ 0 ∷ 0 ∷ 0 ∷ 0 ∷ []) (Sets p e i) in
      is_other (codes "capset") (0 ∷ 0 ∷ 0 ∷ 0 ∷ 0 ∷ 0 ∷ []) (Sets p e i) (d.Capset p e i)
      (fits table whole arch (codes "capset") 0 (omega arith)) (ap (λ (o : Option Rule). asked_by o call) calls'.capset)
      (λ op flags bytes e. cc)

  other_drop : (cap : ℕ) → cap < 2 ^ 32 → IsOtherStep (prctl_step table.calls capbset_drop cap 0)
  other_drop cap small =
      let call : Call = first_call table.calls (codes "prctl") (24 ∷ cap ∷ 0 ∷ 0 ∷ 0 ∷ 0 ∷ []) Nothing in
      is_other (codes "prctl") (24 ∷ cap ∷ 0 ∷ 0 ∷ 0 ∷ 0 ∷ []) Nothing (d.Prctl 24 (cap % 2 ^ 32) 0 0 0)
      (fits_two table whole arch (codes "prctl") 24 cap (omega arith) (omega arith))
      (ap (λ (o : Option Rule). asked_by o call) calls'.prctl) (λ op flags bytes e. cc)

  other_drops : (caps : List ℕ) → AllByRecursion (λ cap. cap < 2 ^ 32) caps
      → AllByRecursion IsOtherStep (map (λ cap. prctl_step table.calls capbset_drop cap 0) caps)
  other_drops [] small = tt
  other_drops (cap ∷ caps) small = (other_drop cap small.0, other_drops caps small.1)

  both_other : (first then : List LaunchStep) → AllByRecursion IsOtherStep first → AllByRecursion IsOtherStep then
      → AllByRecursion IsOtherStep (first ++ then)
  both_other [] then one other = other
  both_other (step' ∷ first) then one other = (one.0, both_other first then one.1 other)

  pub last_other : (wanted : Wanted) → AllByRecursion IsOtherStep (last_steps table.calls wanted)
  last_other wanted = both_other (give_up_steps table.calls wanted) (program_steps table.calls wanted.program)
      (by wanted.keeps_capabilities) (other_exec wanted.program)
    where
      last : ℕ
      last = union wanted.ambient (cut held wanted.bounding)

      by : (b : Bool) → AllByRecursion IsOtherStep (cond b (given_up_steps table.calls (minus held wanted.bounding)
          ++ capset_step table.calls wanted.ambient wanted.ambient last ∷ []) [])
      by false = tt
      by true = both_other (given_up_steps table.calls (minus held wanted.bounding))
          (capset_step table.calls wanted.ambient wanted.ambient last ∷ [])
          (other_drops (filter (has (minus held wanted.bounding)) (count_from 0 41))
          (filter_keeps (λ cap. cap < 2 ^ 32) (has (minus held wanted.bounding)) (count_from 0 41)
          (counted_small 0 41 (omega arith))))
          (other_capset wanted.ambient wanted.ambient last, tt)

  module _ (creds : Creds) (namespace : ℕ) (spaces : List MountNamespace) where
    abbrev with_stack : List (List Insn) → World
    with_stack stack = solo table site creds stack namespace spaces

    abbrev call_of : List ℕ → Call
    call_of bytes = first_call table.calls (codes "seccomp") (1 ∷ 0 ∷ 0 ∷ 0 ∷ 0 ∷ 0 ∷ []) (Code bytes)

    -- one program more in both, or both refused alike
    data StepsAlike (one other : List (List Insn)) : Reply × World → Reply × World → Type 0 where
      refused : (errno : ℕ) (x y : World) → StepsAlike one other (w.Refused errno, x) (w.Refused errno, y)
      killed : (x y : World) → StepsAlike one other (w.Killed, x) (w.Killed, y)
      pushes : StepsAlike one other (w.Done 0, with_stack one) (w.Done 0, with_stack other)

    module _ (one other : List (List Insn)) (bytes bytes' : List ℕ) (code own : List Insn) (read : program_of bytes ≡ Some code)
        (read' : program_of bytes' ≡ Some own)
        (room : room_of one + length code ≤ max_insns_per_path) (room' : room_of other + length own ≤ max_insns_per_path) where
      abbrev Out : Reply × World → Reply × World → Type 0
      Out x y = StepsAlike (one ++ code ∷ []) (other ++ own ∷ []) x y

      abbrev at : List (List Insn) → Effect → Reply × World
      at stack effect = applied (with_stack stack) 1 (only table site creds stack namespace) effect

      roomy : Out (at one (push_effect one (Some code))) (at other (push_effect other (Some own)))
      roomy =
          let yes : nat_le (room_of one + length code) max_insns_per_path ≡ true = grind (arith, nat_tests) in
          let yes' : nat_le (room_of other + length own) max_insns_per_path ≡ true = grind (arith, nat_tests) in
          subst (λ b. Out (at one (cond b (f.Push code) (f.Refuse enomem))) (at other (push_effect other (Some own)))) (sym yes)
          (subst (λ b. Out (at one (f.Push code)) (at other (cond b (f.Push own) (f.Refuse enomem)))) (sym yes') pushes)

      pushed_both : Out (at one (push_effect one (program_of bytes))) (at other (push_effect other (program_of bytes')))
      pushed_both =
          subst (λ (o : Option (List Insn)). Out (at one (push_effect one o)) (at other (push_effect other (program_of bytes')))) (sym read)
          (subst (λ (o : Option (List Insn)). Out (at one (push_effect one (Some code))) (at other (push_effect other o)))
          (sym read') roomy)

      may_both : (b : Bool) → Out (at one (cond (not b) (f.Refuse eacces) (push_effect one (program_of bytes))))
          (at other (cond (not b) (f.Refuse eacces) (push_effect other (program_of bytes'))))
      may_both true = pushed_both
      may_both false = refused 13 (with_stack one) (with_stack other)

      decided_both : (c : Decision) → Out (decided (with_stack one) (call_of bytes) (only table site creds one namespace) c)
          (decided (with_stack other) (call_of bytes') (only table site creds other namespace) c)
      decided_both decision.Pass =
          subst (λ (o : Option Rule). Out (answered (with_stack one) 1 (only table site creds one namespace) (asked_by o (call_of bytes)))
          (answered (with_stack other) 1 (only table site creds other namespace) (asked_by o (call_of bytes')))) (sym calls'.seccomp)
          (may_both (creds.no_new_privs || has creds.effective cap_sys_admin))
      decided_both (decision.Errno errno) = refused errno (with_stack one) (with_stack other)
      decided_both decision.Kill = killed _ _

      steps_alike : AnswerAlike one other → Out (step (with_stack one) (call_of bytes)) (step (with_stack other) (call_of bytes'))
      steps_alike alike =
          let input : CallData = record { nr = number_of table.calls (codes "seccomp"); arch = table.arch; ip = 0; args = 1 ∷ 0 ∷ 0 ∷ 0 ∷ 0 ∷ 0 ∷ [] } in
          let same : decision_on one input ≡ decision_on other input = ap (λ (ns : List ℕ). decision_by (deciding ns)) (same_answers one other input alike (fits table whole arch (codes "seccomp") 1 (omega arith))) in
          subst (λ (c : Decision). Out
          (decided (with_stack one) (call_of bytes) (only table site creds one namespace) (decision_on one input))
          (decided (with_stack other) (call_of bytes') (only table site creds other namespace) c)) same
          (decided_both (decision_on one input))

    -- with the filters in force
    last_alike : (steps : List LaunchStep) (one other : List (List Insn)) (count : ℕ) → AllByRecursion IsOtherStep steps → AnswerAlike one other
        → EndAlike one other (launch_from (with_stack one) steps count) (launch_from (with_stack other) steps count)
    last_alike steps one other count all' alike =
        let whole' : (stack : List (List Insn)) → with_stack stack ≡ above stack (with_stack []) = λ stack. ap (λ (s : List (List Insn)). with_stack s) (sym (append_none stack)) in
        same_ends one other (launch_from (with_stack one) steps count) (launch_from (above one (with_stack [])) steps count)
        (launch_from (with_stack other) steps count) (launch_from (above other (with_stack [])) steps count)
        (ap (λ (v : World). launch_from v steps count) (whole' one)) (ap (λ (v : World). launch_from v steps count) (whole' other))
        (others_alike one other steps (with_stack []) count alike refl all')

    -- the filters
    filters_alike : (last : List LaunchStep) → AllByRecursion IsOtherStep last → (programs programs' : List (List ℕ)) (codes' own' one other : List (List Insn)) (count : ℕ)
        → AreRead programs codes' → AreRead programs' own' → AnswerAlike codes' own' → AnswerAlike one other
        → room_of one + room_of codes' ≤ max_insns_per_path → room_of other + room_of own' ≤ max_insns_per_path
        → EndAlike (one ++ codes') (other ++ own')
        (launch_from (with_stack one) (filter_steps table.calls programs ++ last) count)
        (launch_from (with_stack other) (filter_steps table.calls programs' ++ last) count)
    filters_alike last ends [] [] [] [] one other count read read' same alike room room' =
        same_end one (one ++ []) other (other ++ []) (launch_from (with_stack one) (last) count)
        (launch_from (with_stack other) (last) count) (sym (append_none one)) (sym (append_none other))
        (last_alike last one other count ends alike)
    filters_alike last ends [] (bytes ∷ programs') [] (own ∷ own') one other count read read' same alike room room' = absurd same
    filters_alike last ends (bytes ∷ programs) [] (code ∷ codes') [] one other count read read' same alike room room' = absurd same
    filters_alike last ends [] programs' (code ∷ codes') own' one other count read read' same alike room room' = absurd read
    filters_alike last ends programs [] codes' (own ∷ own') one other count read read' same alike room room' = absurd read'
    filters_alike last ends (bytes ∷ programs) programs' [] own' one other count read read' same alike room room' = absurd read
    filters_alike last ends programs (bytes ∷ programs') codes' [] one other count read read' same alike room room' = absurd read'
    filters_alike last ends (bytes ∷ programs) (bytes' ∷ programs') (code ∷ codes')
        (own ∷ own') one other count read read' same alike room room' =
        let F : List Insn → ℕ = λ code. length code + 4 in
        let a = sum_by-cons F code codes' in
        let a' = sum_by-cons F own own' in
        let b = sum_by-append F one (code ∷ []) in
        let b' = sum_by-append F other (own ∷ []) in
        let e = sum_by-cons F code [] in
        let e' = sum_by-cons F own [] in
        let fit : room_of one + length code ≤ max_insns_per_path = omega arith in
        let fit' : room_of other + length own ≤ max_insns_per_path = omega arith in
        let more = filters_alike last ends programs programs' codes' own' (one ++ code ∷ []) (other ++ own ∷ []) (count + 1) read.1 read'.1 same.1 (pushed_alike one other code own alike same.0) (omega arith) (omega arith) in
        by (step (with_stack one) (call_of bytes)) (step (with_stack other) (call_of bytes'))
        (steps_alike one other bytes bytes' code own read.0 read'.0 fit fit' alike)
        (same_end ((one ++ code ∷ []) ++ codes') (one ++ code ∷ codes') ((other ++ own ∷ []) ++ own') (other ++ own ∷ own')
        (launch_from (with_stack (one ++ code ∷ [])) (filter_steps table.calls programs ++ last) (count + 1))
        (launch_from (with_stack (other ++ own ∷ [])) (filter_steps table.calls programs' ++ last) (count + 1))
        (append_assoc one (code ∷ []) codes') (append_assoc other (own ∷ []) own') more)
      where
        rest : World → List LaunchStep → LaunchOutcome
        rest world steps = launch_from world (steps ++ last) (count + 1)

        by : (x y : Reply × World) → StepsAlike (one ++ code ∷ []) (other ++ own ∷ []) x y
            → EndAlike (one ++ code ∷ codes') (other ++ own ∷ own')
            (launch_from (with_stack (one ++ code ∷ [])) (filter_steps table.calls programs ++ last)
            (count + 1)) (launch_from (with_stack (other ++ own ∷ []))
            (filter_steps table.calls programs' ++ last) (count + 1))
            → EndAlike (one ++ code ∷ codes') (other ++ own ∷ own')
            (launch_on x.0 (count + 1)
            (launch_from x.1 (filter_steps table.calls programs ++ last) (count + 1)))
            (launch_on y.0 (count + 1)
            (launch_from y.1 (filter_steps table.calls programs' ++ last) (count + 1)))
        by x y (refused errno u v) more = (refl, refl)
        by x y (killed u v) more = refl
        by x y pushes more = more

pub launches_alike : LaunchesAlike
launches_alike table site wanted plan programs one other whole arch can small first second alike =
    by (is_privileged_row (finds (row_at site.rows) plan wanted.program))
  where
    calls'' : HasLaunchCalls table.calls
    calls'' = launch_calls table whole

    before : List LaunchStep
    before = with_unshare table.calls (mount_steps plan) ++ identity_steps table.calls wanted

    after : List (List ℕ) → List LaunchStep
    after programs = filter_steps table.calls programs ++ last_steps table.calls wanted

    from_start : List (List ℕ) → LaunchOutcome
    from_start programs = launch_from (start_world table site) (before ++ after programs) 0

    empty_room : (stack : List (List Insn)) → 0 + room_of stack ≤ max_insns_per_path → room_of [] + room_of stack ≤ max_insns_per_path
    empty_room stack h = h

    by_begun : Begun (start_world table site) before 0 → EndAlike one other
        (launch_from (start_world table site) (before ++ after wanted.programs) 0)
        (launch_from (start_world table site) (before ++ after programs) 0)
    by_begun (refuses place errno stop) = same_ends one other (from_start wanted.programs) (StepRefused place errno) (from_start programs)
        (StepRefused place errno) (stop (after wanted.programs)) (stop (after programs)) (refl, refl)
    by_begun (kills place stop) = same_ends one other (from_start wanted.programs) (StepKilled place) (from_start programs)
        (StepKilled place) (stop (after wanted.programs)) (stop (after programs)) refl
    by_begun (goes mid done on) =
        let ready = ready_at table site (launch_calls table whole) wanted plan mid (begins_at_host (site_host site) plan can) small done in
        let there : (programs : List (List ℕ)) → LaunchOutcome = λ programs. launch_from (solo table site ready.creds [] ready.namespace ready.spaces) (after programs) (0 + length before) in
        let reached : (programs : List (List ℕ)) → from_start programs ≡ there programs = λ programs. on (after programs) ∙ ap (λ (v : World). launch_from v (after programs) (0 + length before)) ready.is in
        let r : 0 + room_of one ≤ max_insns_per_path = let h = first.room in omega arith in
        let r' : 0 + room_of other ≤ max_insns_per_path = let h = second.room in omega arith in
        same_ends one other (from_start wanted.programs) (there wanted.programs) (from_start programs) (there programs)
        (reached wanted.programs) (reached programs)
        (filters_alike table site whole arch ready.creds ready.namespace ready.spaces (last_steps table.calls wanted)
        (last_other table site whole arch wanted) wanted.programs programs one other []
        [] (0 + length before) first.read second.read alike tt (empty_room one r) (empty_room other r'))

    joined : (programs : List (List ℕ)) → launch_from (start_world table site)
        (launch_steps table.calls (record wanted { programs = programs }) plan) 0 ≡ from_start programs
    joined programs = ap (λ (steps : List LaunchStep). launch_from (start_world table site) steps 0)
        (append_split (with_unshare table.calls (mount_steps plan)) (identity_steps table.calls wanted)
        (filter_steps table.calls programs) (last_steps table.calls wanted))

    by : (b : Bool) → EndAlike one other
        (cond b (PrivilegedProgram wanted.program) (launch_from (start_world table site) (launch_steps table.calls wanted plan) 0))
        (cond b (PrivilegedProgram wanted.program)
        (launch_from (start_world table site) (launch_steps table.calls (record wanted { programs = programs }) plan) 0))
    by true = refl
    by false = same_ends one other (launch_from (start_world table site) (launch_steps table.calls wanted plan) 0)
        (from_start wanted.programs)
        (launch_from (start_world table site) (launch_steps table.calls (record wanted { programs = programs }) plan) 0)
        (from_start programs) (joined wanted.programs) (joined programs) (by_begun (begun (start_world table site) before 0))
