-- Calls of process 1, which has no programs: a step that its rule does not refuse is done.
use Rattle.std.proofs.Common.{◌≡◌, ℕ, Bool, true, false, cond, codes, List, [], ◌∷◌, ◌++◌, Option, Some, Result, Ok, Err, refl, ap, ◌∙◌}
use Rattle.std.proofs.Common.{sym, subst}
use Rattle.std.specs.Prelude.{map, not}
use Rattle.launcher.specs.abs_path.Paths.{Path}
use Rattle.launcher.specs.call_table.declared.call_names.rule.CallRule.TheVariants as known
use Rattle.launcher.specs.call_table.Table as calls
use Rattle.launcher.specs.cap_sets.Sets.{all}
use Rattle.launcher.specs.kern_creds.declared.creds.Creds.{Creds}
use Rattle.launcher.specs.kern_creds.Exec.{exec_done}
use Rattle.launcher.specs.kern_creds.Start as creds
use Rattle.launcher.specs.kernel_model.kern_files.Executing.{marks_of, executed, exec_answer}
use Rattle.launcher.specs.kernel_model.kern_files.Looking.{flags_at}
use Rattle.launcher.specs.kernel_model.declared.kern_files.program.Program.{Program}
use Rattle.launcher.specs.kern_mounts.declared.step.Flags.{Flags}
use Rattle.launcher.specs.kern_mounts.Finds.{finds}
use Rattle.launcher.specs.kern_mounts.Table as mounts
use Rattle.launcher.specs.kern_mounts.Mounts.{Mounts as MountList}
use Rattle.launcher.specs.kern_mounts.Split.{Table}
use Rattle.launcher.specs.kernel_model.declared.kernel_calls.call.Call.{Call}
use Rattle.launcher.specs.kernel_model.declared.kernel_calls.payload.Payload.{Payload}
use Rattle.launcher.specs.kernel_model.declared.kernel_calls.payload.Payload.TheVariants.{Nothing, OnePath}
use Rattle.launcher.specs.kernel_model.declared.kernel_calls.rule.Rule.{Rule}
use Rattle.launcher.specs.kernel_model.declared.kernel_calls.rule.Rule.TheVariants as rule
use Rattle.launcher.specs.kernel_model.kernel_calls.Rules.{rule_at}
use Rattle.launcher.specs.kernel_model.kernel_calls.Operation as d
use Rattle.launcher.specs.kernel_model.kernel_calls.Operation.{Operation, operation_by, asked_by, asked_if}
use Rattle.launcher.specs.kernel_laws.Questions.{if_so}
use Rattle.launcher.specs.kernel_model.Effects as f
use Rattle.launcher.specs.kernel_model.Effects.{Effect, Host, Caller, effect_of, creds_effect}
use Rattle.launcher.specs.kernel_model.declared.mount_namespace.MountNamespace.{MountNamespace}
use Rattle.launcher.specs.kernel_model.declared.process.Process.{Process}
use Rattle.launcher.specs.kernel_model.MountNamespaces.{first_namespace}
use Rattle.launcher.specs.kernel_model.declared.reply.Reply.{Reply}
use Rattle.launcher.specs.kernel_model.Runs.{IsDone}
use Rattle.launcher.specs.kernel_model.Step.{step, applied, answered}
use Rattle.launcher.specs.kernel_model.World.{World, start_world, host_of, caller_of}
use Rattle.launcher.specs.Launch.{LaunchStep, Mounts, number_of, first_call, makes, launch_step, mount_steps, with_unshare, has_flags}
use Rattle.launcher.specs.Launch.{new_mounts, program_steps}
use Rattle.launcher.specs.Launches.{HasLaunchCalls}
use Rattle.launcher.proofs.HostRoot.{BeginsAtHostRoot}
use Rattle.launcher.proofs.Leading.{Leads}
use Rattle.launcher.proofs.MakingPlan.{plan_mounted}
use Rattle.launcher.proofs.Solo.{At, solo, only, own_table}
use Rattle.launcher.specs.linux_numbers.Errnos.{eacces}
use Rattle.launcher.specs.site_table.Table.{Site, row_at}
use Rattle.sample_inputs.specs.sample_launch.EndsWell.{ShowsProgram}
use Rattle.sample_inputs.proofs.Going.{Goes, goes_once}
use Rattle.sample_inputs.proofs.Granted.{full, exec_granted}

module _ (table : calls.Table) (site : Site) where
  passes : (creds : Creds) (namespace : ℕ) (spaces : List MountNamespace) (nr : ℕ) (args : List ℕ) (payload : Payload) (rule' : Rule)
      (operation : Operation)
      → rule_at table.calls nr ≡ Some rule' → operation_by rule' args payload ≡ Some operation
      → step (solo table site creds [] namespace spaces) (record { pid = 1; abi = 0; nr = nr; args = args; payload = payload })
      ≡ applied (solo table site creds [] namespace spaces) 1 (only table site creds [] namespace)
      (effect_of (host_of (solo table site creds [] namespace spaces))
      (caller_of (solo table site creds [] namespace spaces) (only table site creds [] namespace)) operation)
  passes creds namespace spaces nr args payload rule' operation by_rule is =
      let own : World = solo table site creds [] namespace spaces in
      let call : Call = record { pid = 1; abi = 0; nr = nr; args = args; payload = payload } in
      ap (λ (o : Option Rule). answered own 1 (only table site creds [] namespace) (asked_by o call)) by_rule
      ∙ ap (λ (o : Option Operation). answered own 1 (only table site creds [] namespace) (asked_if o)) is

  -- a call that changes credentials, where its rule grants it
  pub goes_creds : (Q R : Creds → Type 0) (name : List ℕ) (one two three : ℕ) (payload : Payload) (rule' : Rule) (operation : Operation)
      (answer : Creds → Result Creds ℕ) (made : Creds → Creds)
      → rule_at table.calls (number_of table.calls name) ≡ Some rule'
      → operation_by rule' (one ∷ two ∷ three ∷ 0 ∷ 0 ∷ 0 ∷ []) payload ≡ Some operation
      → ((host : Host) (process : Process) (mounts : MountList) (owns : Bool)
      → effect_of host (record { creds = process.creds; stack = process.stack; table = mounts; newer = false; owns = owns }) operation
      ≡ creds_effect (answer process.creds))
      → ((creds : Creds) → Q creds → answer creds ≡ Ok (made creds)) → ((creds : Creds) → Q creds → R (made creds))
      → (plan : Table) (world : World) → At table site Q [] plan world
      → Goes (At table site R [] plan) world (makes table.calls name one two three payload ∷ [])
  goes_creds Q R name one two three payload rule' operation answer made by_rule is effect may to plan world at =
      let own : World = solo table site at.creds [] at.namespace at.spaces in
      let process : Process = only table site at.creds [] at.namespace in
      let call : Call = first_call table.calls name (one ∷ two ∷ three ∷ 0 ∷ 0 ∷ 0 ∷ []) payload in
      let stepped = ap (λ (v : World). step v call) at.is
      ∙ passes at.creds at.namespace at.spaces call.nr call.args payload rule' operation by_rule is
      ∙ ap (λ (e : Effect). applied own 1 process e)
      (effect (host_of own) process (caller_of own process).table (caller_of own process).owns)
      ∙ ap (λ (a : Result Creds ℕ). applied own 1 process (creds_effect a)) (may at.creds at.as_asked) in
      goes_once (At table site R [] plan) world (makes table.calls name one two three payload)
      (subst (λ (out : Reply × World). IsDone out.0) (sym stepped) tt)
      (record {
        creds = made at.creds;
        namespace = at.namespace;
        spaces = at.spaces;
        as_asked = to at.creds at.as_asked;
        is = ap (λ (out : Reply × World). out.1) stepped;
        own = at.own;
      })

  module _ (calls' : HasLaunchCalls table.calls) where
    -- ---- the mounts
    abbrev unshare_step : LaunchStep
    unshare_step = makes table.calls (codes "unshare") new_mounts 0 0 Nothing

    unshared : IsDone (launch_step (start_world table site) unshare_step).0
    unshared =
        let own : World = start_world table site in
        let process : Process = only table site creds.start [] 1 in
        let call : Call = first_call table.calls (codes "unshare") (new_mounts ∷ 0 ∷ 0 ∷ 0 ∷ 0 ∷ 0 ∷ []) Nothing in
        let stepped = passes creds.start 1 (first_namespace ∷ []) call.nr call.args Nothing (rule.Known known.Unshare) (d.Unshare new_mounts) calls'.unshare refl
        ∙ ap (λ b. applied own 1 process (cond b f.OwnTable (f.Refuse 1))) (full all 21 refl refl) in
        subst (λ (out : Reply × World). IsDone out.0) (sym stepped) tt

    mounted : (world : World) (entries : Table) → (last : World) × Leads world (map Mounts entries) last
    mounted world [] = (world, refl)
    mounted world (entry ∷ entries) =
        let more = mounted (launch_step world (Mounts entry)).1 entries in
        (more.0, (tt, more.1))

    behind : (entries : Table) → (last : World) × Leads (start_world table site) (with_unshare table.calls (map Mounts entries)) last
    behind [] = (start_world table site, refl)
    behind (entry ∷ entries) =
        let more = mounted (launch_step (start_world table site) unshare_step).1 (entry ∷ entries) in
        (more.0, (unshared, more.1))

    planned : (plan : Table) → (last : World) × Leads (start_world table site) (with_unshare table.calls (mount_steps plan)) last
    planned [] = (start_world table site, refl)
    planned (first ∷ rest) = by (has_flags first.flags)
      where
        by : (b : Bool) → (last : World) × Leads (start_world table site)
            (with_unshare table.calls (if_so b (Mounts first) ++ map Mounts rest)) last
        by true = behind (first ∷ rest)
        by false = behind rest

    pub goes_mounts : (Q : Creds → Type 0) (plan : Table) → BeginsAtHostRoot plan → Q creds.start
        → Goes (At table site Q [] plan) (start_world table site) (with_unshare table.calls (mount_steps plan))
    goes_mounts Q plan begins starts =
        let start : At table site Q [] mounts.start (start_world table site) = record { creds = creds.start; namespace = 1; spaces = first_namespace ∷ []; as_asked = starts; is = refl; own = refl } in
        let made = planned plan in
        record { last = made.0; leads = made.1; holds = plan_mounted table site calls' Q [] plan (start_world table site) made.0 begins start made.1 }

    -- ---- the program
    runs : (creds : Creds) (plan : Table) (program : Path) (shows : ShowsProgram site plan program)
        → exec_answer creds (flags_at plan program) (finds (row_at site.rows) plan program)
        ≡ Ok (exec_done creds (marks_of shows.program) (flags_at plan program).no_suid)
    runs creds plan program shows =
        let flags : Flags = flags_at plan program in
        let file = marks_of shows.program in
        ap (exec_answer creds flags) shows.found
        ∙ ap (λ b. executed creds
        (cond {A = Result Program ℕ} (not b) (Err eacces)
        (cond flags.no_exec (Err eacces) (Ok (record { file = file; no_suid = flags.no_suid }))))) shows.exe
        ∙ ap (λ b. executed creds (cond {A = Result Program ℕ} b (Err eacces) (Ok (record { file = file; no_suid = flags.no_suid }))))
        shows.runs
        ∙ exec_granted creds file flags.no_suid shows.plain

    pub runs_program : (Q : Creds → Type 0) (plan : Table) (program : Path) (world : World) → ShowsProgram site plan program
        → At table site Q [] plan world
        → (last : World) × Leads world (program_steps table.calls program) last
    runs_program Q plan program world shows at =
        let own : World = solo table site at.creds [] at.namespace at.spaces in
        let process : Process = only table site at.creds [] at.namespace in
        let call : Call = first_call table.calls (codes "execve") (0 ∷ 0 ∷ 0 ∷ 0 ∷ 0 ∷ 0 ∷ []) (OnePath program) in
        let stepped = ap (λ (v : World). step v call) at.is
        ∙ passes at.creds at.namespace at.spaces call.nr call.args (OnePath program) (rule.Known known.Execve)
        (d.Execve program) calls'.execve refl
        ∙ ap (λ (t : Table). applied own 1 process
        (creds_effect (exec_answer at.creds (flags_at t program) (finds (row_at site.rows) t program))))
        (own_table table site at.creds [] at.namespace at.spaces plan at.own)
        ∙ ap (λ (a : Result Creds ℕ). applied own 1 process (creds_effect a)) (runs at.creds plan program shows) in
        ((step world call).1, (subst (λ (out : Reply × World). IsDone out.0) (sym stepped) tt, refl))
