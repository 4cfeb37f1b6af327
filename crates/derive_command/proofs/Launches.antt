-- Where launches by two lists of programs end well, the launch by a list that answers each call as one of the two does too.
use Rattle.std.proofs.Common.{◌≡◌, ℕ, Bool, true, false, cond, codes, List, [], ◌∷◌, ◌++◌, Option, Some, ◌⊎◌, inl, inr, refl, ap, ◌∙◌, sym}
use Rattle.std.proofs.Common.{subst, length, arith}
use Rattle.std.specs.Prelude.{nat_le, ◌+◌, ◌≤◌, ◌||◌, not}
use Rattle.std.specs.List.{AllByRecursion}
use Rattle.std.proofs.lemmas.Bool.Decides.{nat_tests}
use Rattle.std.proofs.lemmas.List.Sums.{sum_by-append, sum_by-cons}
use Rattle.asked_service.specs.bpf_code.declared.machine.Insn.{Insn}
use Rattle.asked_service.specs.bpf_code.declared.machine.CallData.{CallData}
use Rattle.asked_service.specs.bpf_code.declared.decision.Decision.{Decision}
use Rattle.asked_service.specs.bpf_code.declared.decision.Decision.TheVariants as decision
use Rattle.asked_service.specs.bpf_code.Meaning.{IsCallData}
use Rattle.asked_service.specs.bpf_code.ProgramOf.{program_of}
use Rattle.asked_service.specs.bpf_code.Stack.{answer_of, decision_on, room_of}
use Rattle.asked_service.specs.cap_sets.Sets.{has}
use Rattle.asked_service.specs.call_table.Facts.{IsWhole}
use Rattle.asked_service.specs.call_table.Table as calls
use Rattle.asked_service.specs.site_table.Table.{Site, row_at}
use Rattle.asked_service.specs.kern_creds.declared.creds.Creds.{Creds}
use Rattle.asked_service.specs.kern_mounts.Finds.{finds}
use Rattle.asked_service.specs.kernel_model.declared.mount_namespace.MountNamespace.{MountNamespace}
use Rattle.asked_service.specs.kern_mounts.Split.{Table}
use Rattle.asked_service.specs.kernel_model.declared.kernel_calls.call.Call.{Call}
use Rattle.asked_service.specs.kernel_model.declared.kernel_calls.payload.Payload.TheVariants.{Code}
use Rattle.asked_service.specs.kernel_model.declared.kernel_calls.rule.Rule.{Rule}
use Rattle.asked_service.specs.kernel_model.kernel_calls.Operation as d
use Rattle.asked_service.specs.kernel_model.kernel_calls.Operation.{Does, asked_of, asked_by}
use Rattle.asked_service.specs.kernel_model.Effects as f
use Rattle.asked_service.specs.kernel_model.Effects.{Effect, push_effect}
use Rattle.asked_service.specs.kernel_model.Runs.{IsDone}
use Rattle.asked_service.specs.kernel_model.Step.{step, applied, answered, decided}
use Rattle.asked_service.specs.kernel_model.World.{World, start_world}
use Rattle.asked_service.specs.kernel_model.declared.reply.Reply.{Reply}
use Rattle.asked_service.specs.kernel_model.declared.reply.Reply.TheVariants as w
use Rattle.asked_service.specs.linux_numbers.Capabilities.{cap_sys_admin}
use Rattle.asked_service.specs.linux_numbers.Errnos.{eacces, enomem}
use Rattle.asked_service.specs.linux_numbers.Limits.{max_insns_per_path}
use Rattle.asked_service.specs.mount_plan.Host.{host_of as site_host}
use Rattle.asked_service.specs.launcher.Alike.{HasWordArchs, above}
use Rattle.asked_service.specs.launcher.Launch.{LaunchStep, Launched, PrivilegedProgram, Wanted, first_call, number_of, launch_step}
use Rattle.asked_service.specs.launcher.Launch.{launch_steps, launch_from, is_privileged_row, mount_steps, with_unshare, identity_steps}
use Rattle.asked_service.specs.launcher.Launch.{Makes, Mounts, filter_steps, last_steps}
use Rattle.asked_service.specs.launcher.Launches.{HasLaunchCalls, AreRead}
use Rattle.asked_service.proofs.OfLauncher.Alike.{own_step, lifted, step_above, calls_kept}
use Rattle.asked_service.proofs.OfLauncher.CallsMade.{done_on}
use Rattle.asked_service.proofs.OfLauncher.HostRoot.{begins_at_host}
use Rattle.asked_service.proofs.OfLauncher.LaunchData.{fits}
use Rattle.asked_service.proofs.OfLauncher.LaunchesAlike.{IsOtherStep, last_other}
use Rattle.asked_service.proofs.OfLauncher.LaunchCalls.{launch_calls}
use Rattle.asked_service.proofs.OfLauncher.LaunchWorld.{ready_at}
use Rattle.asked_service.proofs.OfLauncher.Leading.{Leads, append_assoc, append_none, append_split, launched_leads, leads_parts}
use Rattle.asked_service.proofs.OfLauncher.Solo.{solo, only}
use Rattle.derive_command.specs.trace_profile.allow_laws.Either.{AnswerSame, AnswersAsEither}
use Rattle.derive_command.specs.trace_profile.allow_laws.Launches.{EitherLaunches, launch_by}
use Rattle.derive_command.proofs.Same.{as_one, both_done, same_decision}

-- ---- steps that are all done
leads_one : (world : World) (steps : List LaunchStep) (one other : World) → Leads world steps one → Leads world steps other → one ≡ other
leads_one world [] one other l m = sym l ∙ m
leads_one world (step ∷ steps) one other l m = leads_one (launch_step world step).1 steps one other l.1 m.1

leads_join : (world : World) (first then : List LaunchStep) (mid last : World) → Leads world first mid → Leads mid then last
    → Leads world (first ++ then) last
leads_join world [] then mid last l m = subst (λ (own : World). Leads own then last) (sym l) m
leads_join world (step ∷ first) then mid last l m = (l.0, leads_join (launch_step world step).1 first then mid last l.1 m)

leads_launched : (world : World) (steps : List LaunchStep) (last : World) (count : ℕ) → Leads world steps last
    → (all : ℕ) × (launch_from world steps count ≡ Launched last all)
leads_launched world [] last count l = (count, ap (λ (own : World). Launched own count) l)
leads_launched world (step ∷ steps) last count l =
    let more = leads_launched (launch_step world step).1 steps last (count + 1) l.1 in
    (more.0, done_on (launch_step world step).0 (count + 1) (launch_from (launch_step world step).1 steps (count + 1)) l.0 ∙ more.1)

-- ---- lists of programs that answer the same
pushed_same : (input : CallData) (one other : List (List Insn)) (code own : List Insn) → AnswerSame input one other
    → answer_of code input ≡ answer_of own input → AnswerSame input (one ++ code ∷ []) (other ++ own ∷ [])
pushed_same input [] [] code own same last = (last, tt)
pushed_same input [] (y ∷ other) code own same last = absurd same
pushed_same input (x ∷ one) [] code own same last = absurd same
pushed_same input (x ∷ one) (y ∷ other) code own same last = (same.0, pushed_same input one other code own same.1 last)

-- what is pushed, and what is left to push, answers each call as one of the two
abbrev pub GoesAsEither : (both one other both' one' other' : List (List Insn)) → Type 0
GoesAsEither both one other both' one' other' =
    (input : CallData) → IsCallData input → (AnswerSame input both one × AnswerSame input both' one') ⊎
    (AnswerSame input both other × AnswerSame input both' other')

module _ (both one other both' one' other' : List (List Insn)) (code code1 code2 : List Insn) where
  next_by : (input : CallData) → (AnswerSame input both one × AnswerSame input (code ∷ both') (code1 ∷ one')) ⊎
      (AnswerSame input both other × AnswerSame input (code ∷ both') (code2 ∷ other'))
      → (AnswerSame input (both ++ code ∷ []) (one ++ code1 ∷ []) × AnswerSame input both' one') ⊎
      (AnswerSame input (both ++ code ∷ []) (other ++ code2 ∷ []) × AnswerSame input both' other')
  next_by input (inl same) = inl (pushed_same input both one code code1 same.0 same.1.0, same.1.1)
  next_by input (inr same) = inr (pushed_same input both other code code2 same.0 same.1.0, same.1.1)

  next_goes : GoesAsEither both one other (code ∷ both') (code1 ∷ one') (code2 ∷ other')
      → GoesAsEither (both ++ code ∷ []) (one ++ code1 ∷ []) (other ++ code2 ∷ []) both' one' other'
  next_goes goes input fit = next_by input (goes input fit)

now_by : (both one other both' one' other' : List (List Insn)) (input : CallData)
    → (AnswerSame input both one × AnswerSame input both' one') ⊎ (AnswerSame input both other × AnswerSame input both' other')
    → AnswerSame input both one ⊎ AnswerSame input both other
now_by both one other both' one' other' input (inl same) = inl same.0
now_by both one other both' one' other' input (inr same) = inr same.0

then_by : (both one other : List (List Insn)) (input : CallData) → AnswerSame input both one ⊎ AnswerSame input both other
    → (AnswerSame input [] [] × AnswerSame input both one) ⊎ (AnswerSame input [] [] × AnswerSame input both other)
then_by both one other input (inl same) = inl (tt, same)
then_by both one other input (inr same) = inr (tt, same)

module _ (table : calls.Table) (site : Site) (whole : IsWhole table) (arch : HasWordArchs table) where
  calls' : HasLaunchCalls table.calls
  calls' = launch_calls table whole

  module _ (creds : Creds) (namespace : ℕ) (spaces : List MountNamespace) where
    abbrev with_stack : List (List Insn) → World
    with_stack stack = solo table site creds stack namespace spaces

    abbrev call_of : List ℕ → Call
    call_of bytes = first_call table.calls (codes "seccomp") (1 ∷ 0 ∷ 0 ∷ 0 ∷ 0 ∷ 0 ∷ []) (Code bytes)

    abbrev input : CallData
    input = record { nr = number_of table.calls (codes "seccomp"); arch = table.arch; ip = 0; args = 1 ∷ 0 ∷ 0 ∷ 0 ∷ 0 ∷ 0 ∷ [] }

    abbrev may : Bool
    may = creds.no_new_privs || has creds.effective cap_sys_admin

    abbrev at : List (List Insn) → Effect → Reply × World
    at stack effect = applied (with_stack stack) 1 (only table site creds stack namespace) effect

    abbrev by_stack : List (List Insn) → List ℕ → Decision → Reply × World
    by_stack stack bytes c = decided (with_stack stack) (call_of bytes) (only table site creds stack namespace) c

    -- a call that passes asks to push the program
    passed : (stack : List (List Insn)) (bytes : List ℕ) → by_stack stack bytes decision.Pass
        ≡ at stack (cond (not may) (f.Refuse eacces) (push_effect stack (program_of bytes)))
    passed stack bytes = ap (λ (o : Option Rule). answered (with_stack stack) 1 (only table site creds stack namespace)
        (asked_by o (call_of bytes))) calls'.seccomp

    -- and it is pushed where it may be
    pushed : (stack : List (List Insn)) (bytes : List ℕ) (code : List Insn) → program_of bytes ≡ Some code
        → room_of stack + length code ≤ max_insns_per_path → may ≡ true
        → by_stack stack bytes decision.Pass ≡ (w.Done 0, with_stack (stack ++ code ∷ []))
    pushed stack bytes code read room allowed =
        let fitting : nat_le (room_of stack + length code) max_insns_per_path ≡ true = grind (arith, nat_tests) in
        passed stack bytes
        ∙ ap (λ b. at stack (cond (not b) (f.Refuse eacces) (push_effect stack (program_of bytes)))) allowed
        ∙ ap (λ (o : Option (List Insn)). at stack (push_effect stack o)) read
        ∙ ap (λ b. at stack (cond b (f.Push code) (f.Refuse enomem))) fitting

    -- a call that is done has passed, and the caller may push
    passes : (stack : List (List Insn)) (bytes : List ℕ) (c : Decision) → IsDone (by_stack stack bytes c).0
        → (c ≡ decision.Pass) × (may ≡ true)
    passes stack bytes decision.Pass did = (refl, by may refl)
      where
        by : (b : Bool) → may ≡ b → b ≡ true
        by true e = refl
        by false e =
            let refused : by_stack stack bytes decision.Pass ≡ (w.Refused eacces, with_stack stack) = passed stack bytes ∙ ap (λ b. at stack (cond (not b) (f.Refuse eacces) (push_effect stack (program_of bytes)))) e in
            absurd (subst (λ (out : Reply × World). IsDone out.0) refused did)
    passes stack bytes (decision.Errno errno) did = absurd did
    passes stack bytes decision.Kill did = absurd did

    -- ---- the steps with all filters in force
    -- what steps leave that push no program, below three lists
    record Goes (both one other : List (List Insn)) (steps : List LaunchStep) (from last last' : World) : Type 0 where
      pub base : World
      pub as_one' : last ≡ above one base
      pub as_other : last' ≡ above other base
      pub leads : Leads (above both from) steps (above both base)

    -- they are done below a list that decides each call as one of two others, below which they are done
    goes_on : (both one other : List (List Insn)) → AnswersAsEither both one other → (steps : List LaunchStep) (from last last' : World)
        → from.calls ≡ table → AllByRecursion (IsOtherStep table site whole arch) steps
        → Leads (above one from) steps last → Leads (above other from) steps last' → Goes both one other steps from last last'
    goes_on both one other like [] from last last' here none l m =
        record { base = from; as_one' = sym l; as_other = sym m; leads = refl }
    goes_on both one other like (Mounts entry ∷ steps) from last last' here none l m = absurd none.0
    goes_on both one other like (Makes call ∷ steps) from last last' here none l m =
        let nothing : (op flags : ℕ) (bytes : List ℕ) → asked_of from.calls call ≡ Does (d.Seccomp op flags bytes) → ⊥ = λ op flags bytes e. none.0.other op flags bytes (sym (ap (λ (t : calls.Table). asked_of t call) here) ∙ e) in
        let fit : IsCallData (record { nr = call.nr; arch = calls.arch_of from.calls call.abi; ip = 0; args = call.args }) = subst (λ (t : calls.Table). IsCallData (record { nr = call.nr; arch = calls.arch_of t call.abi; ip = 0; args = call.args })) (sym here) none.0.fit in
        let did : IsDone (own_step one from call).0 = subst (λ (out : Reply × World). IsDone out.0) (step_above one from call) l.0 in
        let does : IsDone (own_step other from call).0 = subst (λ (out : Reply × World). IsDone out.0) (step_above other from call) m.0 in
        let same = both_done one other from call nothing did does in
        let own = as_one both one other from call nothing like fit same in
        let next : World = (own_step one from call).1 in
        let l' : Leads (above one next) steps last = subst (λ (out : Reply × World). Leads out.1 steps last) (step_above one from call) l.1 in
        let m' : Leads (above other next) steps last' = subst (λ (out : Reply × World). Leads out.1 steps last') (step_above other from call ∙ ap (lifted other) (sym same)) m.1 in
        let together : step (above both from) call ≡ lifted both (own_step one from call) = step_above both from call ∙ ap (lifted both) own in
        let more = goes_on both one other like steps next last last' (calls_kept one from call ∙ here) none.1 l' m' in
        record {
          base = more.base;
          as_one' = more.as_one';
          as_other = more.as_other;
          leads = (
            subst (λ (out : Reply × World). IsDone out.0) (sym together) did,
            subst (λ (out : Reply × World). Leads out.1 steps (above both more.base)) (sym together) more.leads,
          );
        }

    module _ (rest : List LaunchStep) (none : AllByRecursion (IsOtherStep table site whole arch) rest) where
      abbrev left : List (List ℕ) → List LaunchStep
      left programs = filter_steps table.calls programs ++ rest

      -- the three launches from here on
      record Ends (programs : List (List ℕ)) (from last last' : World) (both one other : List (List Insn)) : Type 0 where
        pub base : World
        pub as_one' : last ≡ above one base
        pub as_other : last' ≡ above other base
        pub leads : Leads from (left programs) (above both base)

      with_own : (stack : List (List Insn)) → with_stack stack ≡ above stack (with_stack [])
      with_own stack = ap (λ (s : List (List Insn)). with_stack s) (sym (append_none stack))

      -- the steps behind the filters
      executed : (both one other : List (List Insn)) (last last' : World) → AnswersAsEither both one other
          → Leads (with_stack one) (left []) last → Leads (with_stack other) (left []) last'
          → Ends [] (with_stack both) last last' both one other
      executed both one other last last' like l m =
          let l' = subst (λ (v : World). Leads v rest last) (with_own one) l in
          let m' = subst (λ (v : World). Leads v rest last') (with_own other) m in
          let done = goes_on both one other like rest (with_stack []) last last' refl none l' m' in
          record {
            base = done.base;
            as_one' = done.as_one';
            as_other = done.as_other;
            leads = subst (λ (v : World). Leads v rest (above both done.base)) (sym (with_own both)) done.leads;
          }

      executed_all : (both one other : List (List Insn)) (last last' : World) → Ends [] (with_stack both) last last' both one other
          → Ends [] (with_stack both) last last' (both ++ []) (one ++ []) (other ++ [])
      executed_all both one other last last' ends = record {
        base = ends.base;
        as_one' = ends.as_one' ∙ ap (λ (s : List (List Insn)). above s ends.base) (sym (append_none one));
        as_other = ends.as_other ∙ ap (λ (s : List (List Insn)). above s ends.base) (sym (append_none other));
        leads = subst (λ (s : List (List Insn)). Leads (with_stack both) (left []) (above s ends.base)) (sym (append_none both)) ends.leads;
      }

      module _ (bytes : List ℕ) (programs : List (List ℕ)) (both both' : List (List Insn)) (code : List Insn) where
        -- one more is pushed
        one_more : (last last' : World) (one one' other other' : List (List Insn)) (code1 code2 : List Insn)
            → step (with_stack both) (call_of bytes) ≡ (w.Done 0, with_stack (both ++ code ∷ []))
            → Ends programs (with_stack (both ++ code ∷ [])) last last' ((both ++ code ∷ []) ++ both') ((one ++ code1 ∷ []) ++ one')
            ((other ++ code2 ∷ []) ++ other')
            → Ends (bytes ∷ programs) (with_stack both) last last' (both ++ code ∷ both') (one ++ code1 ∷ one') (other ++ code2 ∷ other')
        one_more last last' one one' other other' code1 code2 stepped more = record {
          base = more.base;
          as_one' = more.as_one' ∙ ap (λ (s : List (List Insn)). above s more.base) (append_assoc one (code1 ∷ []) one');
          as_other = more.as_other ∙ ap (λ (s : List (List Insn)). above s more.base) (append_assoc other (code2 ∷ []) other');
          leads = (
            subst (λ (out : Reply × World). IsDone out.0) (sym stepped) tt,
            subst (λ (out : Reply × World). Leads out.1 (left programs) (above (both ++ code ∷ both') more.base)) (sym stepped)
                (subst (λ (s : List (List Insn)). Leads (with_stack (both ++ code ∷ [])) (left programs) (above s more.base))
                (append_assoc both (code ∷ []) both') more.leads),
          );
        }

      -- the call passes below the first list as it does below the one that decides alike
      passes_too : (both one other : List (List Insn)) → AnswerSame input both one ⊎ AnswerSame input both other
          → decision_on one input ≡ decision.Pass → decision_on other input ≡ decision.Pass → decision_on both input ≡ decision.Pass
      passes_too both one other (inl same) p q = same_decision input both one same ∙ p
      passes_too both one other (inr same) p q = same_decision input both other same ∙ q

      -- the programs are pushed
      pushing : (programs of_one of_other : List (List ℕ)) (both' one' other' both one other : List (List Insn)) (last last' : World)
          → AreRead programs both' → AreRead of_one one' → AreRead of_other other' → length both' ≡ length one'
          → length both' ≡ length other' → GoesAsEither both one other both' one' other'
          → room_of both + room_of both' ≤ max_insns_per_path → room_of one + room_of one' ≤ max_insns_per_path
          → room_of other + room_of other' ≤ max_insns_per_path
          → Leads (with_stack one) (left of_one) last → Leads (with_stack other) (left of_other) last'
          → Ends programs (with_stack both) last last' (both ++ both') (one ++ one') (other ++ other')
      pushing [] [] [] [] [] [] both one other last last' read read1 read2 long long2 goes room room1 room2 l m =
          executed_all both one other last last'
          (executed both one other last last' (λ own fit. now_by both one other [] [] [] own (goes own fit)) l m)
      pushing (bytes ∷ programs) of_one of_other [] one' other' both one other last last' read read1 read2 long long2 goes room room1
          room2 l m = absurd read
      pushing [] of_one of_other (code ∷ both') one' other' both one other last last' read read1 read2 long long2 goes room room1 room2 l
          m = absurd read
      pushing programs (bytes ∷ of_one) of_other both' [] other' both one other last last' read read1 read2 long long2 goes room room1
          room2 l m = absurd read1
      pushing programs [] of_other both' (code ∷ one') other' both one other last last' read read1 read2 long long2 goes room room1 room2
          l m = absurd read1
      pushing programs of_one (bytes ∷ of_other) both' one' [] both one other last last' read read1 read2 long long2 goes room room1 room2
          l m = absurd read2
      pushing programs of_one [] both' one' (code ∷ other') both one other last last' read read1 read2 long long2 goes room room1 room2 l
          m = absurd read2
      pushing [] (bytes ∷ of_one) of_other [] (code ∷ one') other' both one other last last' read read1 read2 long long2 goes room room1
          room2 l m = absurd (omega (arith, long))
      pushing [] [] (bytes ∷ of_other) [] [] (code ∷ other') both one other last last' read read1 read2 long long2 goes room room1 room2 l
          m = absurd (omega (arith, long2))
      pushing (bytes ∷ programs) [] of_other (code ∷ both') [] other' both one other last last' read read1 read2 long long2 goes room
          room1 room2 l m = absurd (omega (arith, long))
      pushing (bytes ∷ programs) (bytes1 ∷ of_one) [] (code ∷ both')
          (code1 ∷ one') [] both one other last last' read read1 read2 long long2 goes room room1 room2 l m = absurd (omega (arith, long2))
      pushing (bytes ∷ programs) (bytes1 ∷ of_one) (bytes2 ∷ of_other) (code ∷ both') (code1 ∷ one')
          (code2 ∷ other') both one other last last' read read1 read2 long long2 goes room room1 room2 l m =
          let F : List Insn → ℕ = λ code. length code + 4 in
          let a = sum_by-cons F code both' in
          let a1 = sum_by-cons F code1 one' in
          let a2 = sum_by-cons F code2 other' in
          let b = sum_by-append F both (code ∷ []) in
          let b1 = sum_by-append F one (code1 ∷ []) in
          let b2 = sum_by-append F other (code2 ∷ []) in
          let e = sum_by-cons F code [] in
          let e1 = sum_by-cons F code1 [] in
          let e2 = sum_by-cons F code2 [] in
          let p = passes one bytes1 (decision_on one input) l.0 in
          let q = passes other bytes2 (decision_on other input) m.0 in
          let passing = passes_too both one other (now_by both one other (code ∷ both') (code1 ∷ one') (code2 ∷ other') input (goes input (fits table whole arch (codes "seccomp") 1 (omega arith)))) p.0 q.0 in
          let fit : room_of both + length code ≤ max_insns_per_path = omega arith in
          let fit1 : room_of one + length code1 ≤ max_insns_per_path = omega arith in
          let fit2 : room_of other + length code2 ≤ max_insns_per_path = omega arith in
          let stepped0 : step (with_stack both) (call_of bytes) ≡ (w.Done 0, with_stack (both ++ code ∷ [])) = ap (by_stack both bytes) passing ∙ pushed both bytes code read.0 fit p.1 in
          let stepped1 : step (with_stack one) (call_of bytes1) ≡ (w.Done 0, with_stack (one ++ code1 ∷ [])) = ap (by_stack one bytes1) p.0 ∙ pushed one bytes1 code1 read1.0 fit1 p.1 in
          let stepped2 : step (with_stack other) (call_of bytes2) ≡ (w.Done 0, with_stack (other ++ code2 ∷ [])) = ap (by_stack other bytes2) q.0 ∙ pushed other bytes2 code2 read2.0 fit2 p.1 in
          let l' = subst (λ (out : Reply × World). Leads out.1 (left of_one) last) stepped1 l.1 in
          let m' = subst (λ (out : Reply × World). Leads out.1 (left of_other) last') stepped2 m.1 in
          let long' : length both' ≡ length one' = omega (arith, long) in
          let long2' : length both' ≡ length other' = omega (arith, long2) in
          one_more bytes programs both both' code last last' one one' other other' code1 code2 stepped0
          (pushing programs of_one of_other both' one' other' (both ++ code ∷ []) (one ++ code1 ∷ [])
          (other ++ code2 ∷ []) last last' read.1 read1.1 read2.1 long' long2'
          (next_goes both one other both' one' other' code code1 code2 goes) (omega arith) (omega arith) (omega arith) l' m')

module _ (table : calls.Table) (site : Site) (wanted : Wanted) (plan : Table) where
  abbrev before : List LaunchStep
  before = with_unshare table.calls (mount_steps plan) ++ identity_steps table.calls wanted

  abbrev after : List (List ℕ) → List LaunchStep
  after programs = filter_steps table.calls programs ++ last_steps table.calls wanted

  abbrev steps_of : List (List ℕ) → List LaunchStep
  steps_of programs = launch_steps table.calls (record wanted { programs = programs }) plan

  split : (programs : List (List ℕ)) → steps_of programs ≡ before ++ after programs
  split programs = append_split (with_unshare table.calls (mount_steps plan)) (identity_steps table.calls wanted)
      (filter_steps table.calls programs) (last_steps table.calls wanted)

  abbrev begun : World
  begun = start_world table site

  -- a launch that ends well takes all steps, and its program is not privileged
  took : (programs : List (List ℕ)) (last : World) (count : ℕ) → launch_by table site wanted plan programs ≡ Launched last count
      → Leads begun (before ++ after programs) last × (is_privileged_row (finds (row_at site.rows) plan wanted.program) ≡ false)
  took programs last count e = by (is_privileged_row (finds (row_at site.rows) plan wanted.program)) refl e
    where
      by : (b : Bool) → is_privileged_row (finds (row_at site.rows) plan wanted.program) ≡ b
          → cond b (PrivilegedProgram wanted.program) (launch_from begun (steps_of programs) 0) ≡ Launched last count
          → Leads begun (before ++ after programs) last × (is_privileged_row (finds (row_at site.rows) plan wanted.program) ≡ false)
      by true is e = cc
      by false is e = (subst (λ (steps : List LaunchStep). Leads begun steps last) (split programs) (launched_leads begun (steps_of programs) 0 last count e).0, is)

  -- and where all steps are done, and its program is not privileged, it ends well
  ends_well : (programs : List (List ℕ)) (last : World) → Leads begun (before ++ after programs) last
      → is_privileged_row (finds (row_at site.rows) plan wanted.program) ≡ false
      → (all : ℕ) × (launch_by table site wanted plan programs ≡ Launched last all)
  ends_well programs last l plain =
      let done = leads_launched begun (steps_of programs) last 0 (subst (λ (steps : List LaunchStep). Leads begun steps last) (sym (split programs)) l) in
      (done.0, ap (λ b. cond b (PrivilegedProgram wanted.program) (launch_from begun (steps_of programs) 0)) plain ∙ done.1)

pub either_launches : EitherLaunches
either_launches table site wanted plan programs of_one of_other both one other last last' whole arch can small installed long long2 like
    first second =
    let took1 = took table site wanted plan of_one last first.steps first.launched in
    let took2 = took table site wanted plan of_other last' second.steps second.launched in
    let parts1 = leads_parts (start_world table site) (before table site wanted plan) (after table site wanted plan of_one) last took1.0 in
    let parts2 = leads_parts (start_world table site) (before table site wanted plan) (after table site wanted plan of_other) last' took2.0 in
    let ready = ready_at table site (launch_calls table whole) wanted plan parts1.mid (begins_at_host (site_host site) plan can) small parts1.before in
    let one_place : parts2.mid ≡ parts1.mid = leads_one (start_world table site) (before table site wanted plan) parts2.mid parts1.mid parts2.before parts1.before in
    let l = subst (λ (v : World). Leads v (after table site wanted plan of_one) last) ready.is parts1.after in
    let m = subst (λ (v : World). Leads v (after table site wanted plan of_other) last') (one_place ∙ ready.is) parts2.after in
    let r : 0 + room_of both ≤ max_insns_per_path = let h = installed.room in omega arith in
    let r1 : 0 + room_of one ≤ max_insns_per_path = let h = first.installed.room in omega arith in
    let r2 : 0 + room_of other ≤ max_insns_per_path = let h = second.installed.room in omega arith in
    let ends = pushing table site whole arch ready.creds ready.namespace ready.spaces (last_steps table.calls wanted)
    (last_other table site whole arch wanted) programs of_one of_other both one other [] [] [] last last' installed.read first.installed.read second.installed.read long long2
    (λ input fit. then_by both one other input (like input fit)) r r1 r2 l m in
    let all = leads_join (start_world table site) (before table site wanted plan) (after table site wanted plan programs) parts1.mid (above both ends.base) parts1.before
    (subst (λ (v : World). Leads v (after table site wanted plan programs) (above both ends.base)) (sym ready.is) ends.leads) in
    let done = ends_well table site wanted plan programs (above both ends.base) all took1.1 in
    record { base = ends.base; as_one = ends.as_one'; as_other = ends.as_other; steps = done.0; launched = done.1 }
