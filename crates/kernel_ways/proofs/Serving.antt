-- The last step of a launch runs the program; and with what the launch keeps, the launched world is served.
use Rattle.std.proofs.Common.{◌≡◌, map, ℕ, Bool, true, false, cond, codes, List, [], ◌∷◌, ◌++◌, Option, Some, Result, Ok, Err, refl, ap}
use Rattle.std.proofs.Common.{◌∙◌, sym, subst, ◌<◌, arith, eqb, append-nil}
use Rattle.std.specs.Prelude.{◌^◌, ◌&&◌, not, All, length}
use Rattle.std.specs.List.{AllByRecursion}
use Rattle.std.proofs.lemmas.List.Elements.{recursion_from_All}
use Rattle.std.specs.Int.RustNames.{bit_and}
use Rattle.std.proofs.lemmas.Bool.{eqb-true}
use Rattle.launcher.specs.abs_path.Paths.{Path}
use Rattle.launcher.specs.bpf_code.declared.machine.Insn.{Insn}
use Rattle.launcher.specs.bpf_code.declared.decision.Decision.{Decision}
use Rattle.launcher.specs.bpf_code.declared.decision.Decision.TheVariants as decision
use Rattle.launcher.specs.bpf_code.Stack.{decision_on}
use Rattle.launcher.specs.call_table.declared.call_names.rule.CallRule.TheVariants as known
use Rattle.launcher.specs.call_table.declared.listed.CallLine.{CallLine}
use Rattle.launcher.specs.call_table.Facts.{IsWhole}
use Rattle.launcher.specs.call_table.Lookups.{IsInRange, numbered}
use Rattle.launcher.specs.call_table.Table as calls
use Rattle.launcher.specs.cap_sets.Sets.{all, within, IsWithin}
use Rattle.launcher.proofs.OfCapSets.Words.{and_below}
use Rattle.launcher.proofs.OfCapSets.Members.{within-from_IsWithin, within_through}
use Rattle.launcher.specs.filter_settings.filter_rules.Refusing.{AreRefusing}
use Rattle.launcher.specs.filter_settings.declared.filter_rules.settings.FilterSettings.{FilterSettings}
use Rattle.launcher.specs.linux_numbers.Errnos.{eacces, eperm}
use Rattle.launcher.specs.linux_numbers.Limits.{no_id}
use Rattle.launcher.specs.site_table.declared.row.Row.{Row}
use Rattle.launcher.specs.site_table.Kinds.{is_exe}
use Rattle.launcher.specs.site_table.Table.{Site, IsSite, row_at}
use Rattle.launcher.specs.kern_creds.declared.creds.Creds.{Creds}
use Rattle.launcher.specs.kern_creds.Exec.{is_privileged, is_refused, exec_done}
use Rattle.launcher.specs.kern_mounts.Finds.{Found, row, empty_directory, nothing, finds}
use Rattle.launcher.specs.kern_mounts.Launch.{CanBeMounted}
use Rattle.launcher.specs.kern_mounts.Mounts.{plain}
use Rattle.launcher.specs.kern_mounts.Split.{Table}
use Rattle.launcher.specs.kern_mounts.declared.step.Flags.{Flags}
use Rattle.launcher.specs.kernel_model.kern_files.Executing.{marks_of, executed, exec_answer}
use Rattle.launcher.specs.kernel_model.kern_files.Looking.{flags_at}
use Rattle.launcher.specs.kernel_model.kernel_calls.Calls.{IsCall}
use Rattle.launcher.specs.kernel_model.kernel_calls.Operation as d
use Rattle.launcher.specs.kernel_model.kernel_calls.Operation.{Does, asked_by, asked_of}
use Rattle.launcher.specs.kernel_model.kernel_calls.Rules.{rule_at}
use Rattle.launcher.specs.kernel_model.declared.kernel_calls.call.Call.{Call}
use Rattle.launcher.specs.kernel_model.declared.kernel_calls.payload.Payload.TheVariants.{OnePath}
use Rattle.launcher.specs.kernel_model.declared.kernel_calls.rule.Rule.{Rule}
use Rattle.launcher.specs.kernel_model.declared.kernel_calls.rule.Rule.TheVariants.{Known}
use Rattle.launcher.specs.kernel_model.Effects.{Effect, SetCreds, creds_effect}
use Rattle.launcher.specs.kernel_model.Runs.{IsDone}
use Rattle.launcher.specs.kernel_model.Step.{most_namespaces, step, applied, decided}
use Rattle.launcher.specs.kernel_model.MountNamespaces.{owned_by_first}
use Rattle.launcher.specs.kernel_model.World.{World, start_world, of_number}
use Rattle.launcher.specs.kernel_model.declared.mount_namespace.MountNamespace.{MountNamespace}
use Rattle.launcher.specs.kernel_model.declared.process.Process.{Process}
use Rattle.launcher.specs.kernel_model.declared.reply.Reply.{Reply}
use Rattle.launcher.specs.kernel_laws.FirstChoice.{Means}
use Rattle.launcher.specs.kernel_laws.Kinds.{no_words}
use Rattle.launcher.specs.kernel_laws.Launched.{Launch, IsLaunched, IsLaunchedWorld, launch_of, data_at, lets, passes}
use Rattle.launcher.specs.kernel_laws.declared.question_types.kind.CallKind.TheVariants.{ForPath}
use Rattle.launcher.specs.kernel_laws.declared.question_types.wish.Wish.TheVariants.{Exec as ToExec}
use Rattle.launcher.specs.kernel_laws.declared.question_types.power.Power.TheVariants.{None as Nowise}
use Rattle.launcher.specs.kernel_laws.Reach.{fits}
use Rattle.launcher.proofs.OfKernelLaws.Filters.{has_rule, found_number, lets_through}
use Rattle.launcher.proofs.OfKernelLaws.Reach.{leads}
use Rattle.launcher.proofs.OfKernelLaws.ReachLaws.{reach_of_the_table}
use Rattle.launcher.specs.Launch.{Wanted, Launched, launch, PrivilegedProgram, number_of, first_call, launch_from, launch_steps}
use Rattle.launcher.specs.Launch.{program_steps, is_privileged_row}
use Rattle.launcher.specs.LaunchedWorlds.{IsMeant}
use Rattle.launcher.specs.Launches.{HasLaunchCalls, AreRead, KeepsForUser}
use Rattle.launcher.proofs.HostRoot.{BeginsAtHostRoot, begins_at_host}
use Rattle.launcher.proofs.LaunchCalls.{launch_calls}
use Rattle.launcher.proofs.LaunchCreds.{IsReady}
use Rattle.launcher.proofs.LaunchWorld.{before_program, left_over}
use Rattle.launcher.proofs.LaunchedWorlds.{launched_is_world}
use Rattle.launcher.proofs.Leading.{Leads, launched_leads}
use Rattle.launcher.proofs.Solo.{At, solo, only, does, own_table}
use Rattle.launcher.specs.mount_plan.Host.{host_of as site_host}
use Rattle.reach_paths.specs.Finding.{FindsRow}
use Rattle.reach_paths.proofs.Found.{can_be_remounted, exactly}
use Rattle.reach_paths.specs.declared.needs.Need.TheVariants.{ForWish}
use Rattle.kernel_ways.specs.Laws.{IsServedWorld}
use Rattle.kernel_ways.specs.Launching.{LaunchedIsServed, LaunchedRunsProgram}
use Rattle.kernel_ways.specs.Offers.{Offers, HasProgram, RunsProgram}
use Rattle.kernel_ways.proofs.Counting.{few_tables}
use Rattle.kernel_ways.proofs.Lines.{zeros}
use Rattle.kernel_ways.proofs.Rows.{known_found}
use Rattle.kernel_ways.proofs.Unlooked.{settings_pass_alike}
use Rattle.kernel_ways.specs.Ways.{CallAt, IsCallAt, rule_there, passes_at}
use Rattle.launcher.specs.Alike.{HasWordArchs}
use Rattle.launcher.proofs.TwoAbis.{archs_differ}

module _ (table : calls.Table) (site : Site) where
  -- ---- an execve that is done
  passed : (world : World) (call : Call) (process : Process) (own : Decision) → IsDone (decided world call process own).0
      → own ≡ decision.Pass
  passed world call process decision.Pass done = refl
  passed world call process (decision.Errno errno) done = absurd done
  passed world call process decision.Kill done = absurd done

  module _ (creds : Creds) (stack : List (List Insn)) (namespace : ℕ) (spaces : List MountNamespace) where
    abbrev own_world : World
    own_world = solo table site creds stack namespace spaces

    abbrev own_process : Process
    own_process = only table site creds stack namespace

    -- what the path found, and the credentials afterwards
    pub record Ran (flags : Flags) (found : Found Row) : Type 0 where
      pub program : Row
      pub is : found ≡ row program
      pub exe : is_exe program.kind ≡ true
      pub leave : flags.no_exec ≡ false
      pub after : Creds
      pub becomes : creds_effect (exec_answer creds flags found) ≡ SetCreds 0 after
      pub bounding : after.bounding ≡ creds.bounding

    abbrev after_of : Flags → Row → Creds
    after_of flags own = exec_done creds (marks_of own) flags.no_suid

    abbrev program_by : Flags → Row → Bool → Bool → Effect
    program_by flags own b c =
        creds_effect (executed creds
        (cond (not b) (Err eacces) (cond c (Err eacces) (Ok (record { file = marks_of own; no_suid = flags.no_suid })))))

    abbrev creds_by : Flags → Row → Bool → Effect
    creds_by flags own b = creds_effect (cond {A = Result Creds ℕ} b (Err eperm) (Ok (after_of flags own)))

    not_refused : (flags : Flags) (own : Row) (b : Bool) → is_refused creds (marks_of own) flags.no_suid ≡ b → is_exe own.kind ≡ true
        → flags.no_exec ≡ false → IsDone (applied own_world 1 own_process (creds_by flags own b)).0 → Ran flags (row own)
    not_refused flags own true g e h done = absurd done
    not_refused flags own false g e h done = record {
      program = own;
      is = refl;
      exe = e;
      leave = h;
      after = after_of flags own;
      becomes = ap (λ b. program_by flags own b flags.no_exec) e ∙ ap (λ c. program_by flags own true c) h ∙ ap (creds_by flags own) g;
      bounding = refl;
    }

    ran : (flags : Flags) (found : Found Row) → IsDone (applied own_world 1 own_process (creds_effect (exec_answer creds flags found))).0
        → Ran flags found
    ran flags empty_directory done = absurd done
    ran flags (nothing errno) done = absurd done
    ran flags (row own) done = by (is_exe own.kind) refl flags.no_exec refl done
      where
        by : (b : Bool) → is_exe own.kind ≡ b → (c : Bool) → flags.no_exec ≡ c
            → IsDone (applied own_world 1 own_process (program_by flags own b c)).0 → Ran flags (row own)
        by false e c h done = absurd done
        by true e true h done = absurd done
        by true e false h done = not_refused flags own (is_refused creds (marks_of own) flags.no_suid) refl e h done

  -- ---- the last step
  module _ (calls' : HasLaunchCalls table.calls) (plan : Table) (program : Path) where
    abbrev exec_call : Call
    exec_call = first_call table.calls (codes "execve") no_words (OnePath program)

    abbrev launched_with : Creds → List (List Insn) → Launch
    launched_with creds stack = record { calls = table; site = site; creds = creds; stack = stack; table = plan }

    pub record Ends (Q : Creds → Type 0) (stack : List (List Insn)) (last : World) : Type 0 where
      pub before : Creds
      pub ready : Q before
      pub through : decision_on stack (data_at (launched_with before stack) 0 (number_of table.calls (codes "execve")) no_words)
          ≡ decision.Pass
      pub namespace : ℕ
      pub spaces : List MountNamespace
      pub own : of_number spaces namespace ≡ Some (owned_by_first (map plain plan))
      pub ran : Ran before stack namespace spaces (flags_at plan program) (finds (row_at site.rows) plan program)
      pub is : launch_of last ≡ launched_with ran.after stack

    ends : (Q : Creds → Type 0) (stack : List (List Insn)) (world last : World) → At table site Q stack plan world
        → Leads world (program_steps table.calls program) last → Ends Q stack last
    ends Q stack world last at l =
        let own : World = solo table site at.creds stack at.namespace at.spaces in
        let process : Process = only table site at.creds stack at.namespace in
        let done : IsDone (step own exec_call).0 = subst (λ (v : World). IsDone (step v exec_call).0) at.is l.0 in
        let same = own_table table site at.creds stack at.namespace at.spaces plan at.own in
        let stepped = does table site at.creds stack at.namespace at.spaces exec_call.nr exec_call.args (OnePath program) (Known known.Execve) (d.Execve program) calls'.execve refl done
        ∙ ap (λ (t : Table). applied own 1 process (creds_effect (exec_answer at.creds (flags_at t program) (finds (row_at site.rows) t program)))) same in
        let done' = subst (λ (out : Reply × World). IsDone out.0) stepped done in
        let ran' = ran at.creds stack at.namespace at.spaces (flags_at plan program) (finds (row_at site.rows) plan program) done' in
        let now : step own exec_call ≡ applied own 1 process (SetCreds 0 ran'.after) = stepped ∙ ap (applied own 1 process) ran'.becomes in
        let last_is : last ≡ solo table site ran'.after stack at.namespace at.spaces = sym l.1 ∙ ap (λ (v : World). (step v exec_call).1) at.is ∙ ap (λ (out : Reply × World). out.1) now in
        let shown : launch_of (solo table site ran'.after stack at.namespace at.spaces) ≡ launched_with ran'.after stack =
        ap (λ (t : Table). record { calls = table; site = site; creds = ran'.after; stack = stack; table = t }) (own_table table site ran'.after stack at.namespace at.spaces plan at.own) in
        record {
          before = at.creds;
          ready = at.as_asked;
          through = passed own exec_call process (decision_on stack (data_at (launched_with at.creds stack) 0 exec_call.nr no_words)) done;
          namespace = at.namespace;
          spaces = at.spaces;
          own = at.own;
          ran = ran';
          is = ap launch_of last_is ∙ shown;
        }

  module _ (calls' : HasLaunchCalls table.calls) (wanted : Wanted) (plan : Table) where
    pub record Launches (last : World) : Type 0 where
      pub stack : List (List Insn)
      pub read : AreRead wanted.programs stack
      pub ends : Ends calls' plan wanted.program (IsReady wanted.uid wanted.ambient (left_over table site calls' wanted)) stack last

    launches : (last : World) → BeginsAtHostRoot plan → wanted.uid < no_id → KeepsForUser wanted
        → Leads (start_world table site) (launch_steps table.calls wanted plan) last → Launches last
    launches last begins small keeps l =
        let before = before_program table site calls' wanted plan last begins small keeps l in
        let ready : Creds → Type 0 = IsReady wanted.uid wanted.ambient (left_over table site calls' wanted) in
        record { stack = before.stack; read = before.read; ends = ends calls' plan wanted.program ready before.stack before.mid last before.left.at before.runs }

-- ---- numbers
-- what is found by its number has what all lines have
found_all : (P : CallLine → Type 0) (lines : List CallLine) (nr : ℕ) (line : CallLine) → AllByRecursion P lines
    → numbered nr lines ≡ Some line → P line
found_all P [] nr line each e = cc
found_all P (first ∷ lines) nr line each e = by (eqb first.number nr) e (found_all P lines nr line each.1)
  where
    by : (b : Bool) → cond b (Some first) (numbered nr lines) ≡ Some line → (numbered nr lines ≡ Some line → P line) → P line
    by true e more = let same : first ≡ line = cc in subst P same each.0
    by false e more = more e

small_number : (lines : List CallLine) (nr : ℕ) (rule : Rule) → All IsInRange lines → rule_at lines nr ≡ Some rule → nr < 2 ^ 32
small_number lines nr rule each at =
    let h = has_rule lines nr rule at in
    let range = found_all IsInRange lines nr h.line (recursion_from_All IsInRange lines each) h.found in
    let number = found_number lines nr h.line h.found in
    omega (arith, range.number, number)

-- a set of the capabilities 0 to 40
small_set : (set : ℕ) → IsWithin set all → set < 2 ^ 41
unfolding within all
small_set set h =
    let e : bit_and all set ≡ set = eqb-true (bit_and all set) set (within-from_IsWithin set all h) in
    let P : ℕ → Type 0 = λ n. n < 2 ^ 41 in
    subst P e (and_below all set (omega arith))

-- ---- the facts
module _ (launch : Launch) (l : IsLaunched launch) (whole : IsWhole launch.calls) (site : IsSite launch.site) (can : CanBeMounted (site_host launch.site) launch.table) where
  -- execve with the words 0 passes, so some line lets it
  execs : (nr : ℕ) → rule_at launch.calls.calls nr ≡ Some (Known known.Execve) → passes launch 0 nr no_words
      → lets launch (ForPath ToExec) ≡ true
  execs nr at through =
      let call : Call = record { pid = 1; abi = 0; nr = nr; args = no_words; payload = OnePath [] } in
      let small = small_number launch.calls.calls nr (Known known.Execve) (l.calls_in_range 0) at in
      let fit : IsCall call = record { pid = omega arith; abi = omega arith; nr = small; count = zeros.count; args = zeros.each; payload = record { normal = refl; short = omega arith } } in
      let asks : asked_of launch.calls call ≡ Does (d.Execve []) = ap (λ (r : Option Rule). asked_by r call) at in
      let through' : decision_on (launch.stack ++ []) (data_at launch 0 nr no_words) ≡ decision.Pass = ap (λ s. decision_on s (data_at launch 0 nr no_words)) (append-nil launch.stack) ∙ through in
      (lets_through launch l).kinds [] call (d.Execve []) fit through' asks (ForPath ToExec) refl

  -- a path that finds a program finds it by a path that can be named
  has_program : (path : Path) (program : Row) → finds (row_at launch.site.rows) launch.table path ≡ row program
      → is_exe program.kind ≡ true → (flags_at launch.table path).no_exec ≡ false → is_privileged (marks_of program) ≡ false
      → HasProgram launch
  has_program path program found exe leave plain =
      let allowed : fits ToExec (flags_at launch.table path) ≡ true = ap not leave in
      let lead = leads launch.site.rows launch.table path program (fits ToExec) found allowed in
      let reached = (reach_of_the_table launch.table program.path (fits ToExec)).1 lead in
      let known' = known_found launch.site launch.table path program found in
      let f = (exactly Nowise launch.table program.path (fits ToExec) (can_be_remounted (ForWish ToExec)) launch.site program site can known').0 reached in
      record { program = program; found = subst (λ (t : Table). FindsRow (row_at launch.site.rows) t (fits ToExec) program) f.1 f.2; exe = exe; plain = plain }

-- programs that were read from bytes that decide as filters do
read_means : (settings : FilterSettings) (table : calls.Table) (programs : List (List ℕ)) (stack : List (List Insn))
    → AreRead programs stack → AllByRecursion (IsMeant settings table) programs → AllByRecursion (Means settings table) stack
read_means settings table [] [] read each = tt
read_means settings table [] (code ∷ stack) read each = absurd read
read_means settings table (bytes ∷ programs) [] read each = absurd read
read_means settings table (bytes ∷ programs) (code ∷ stack) read each =
    (each.0 code read.0, read_means settings table programs stack read.1 each.1)

-- the facts of the world that a launch leaves
record Facts (launch : Launch) (path : Path) (last : World) : Type 0 where
  launched : IsLaunchedWorld last
  few : length last.namespaces < most_namespaces
  offers : Offers (launch_of last)
  is : launch_of last ≡ launch
  program : Row
  found : finds (row_at launch.site.rows) launch.table path ≡ row program
  exe : is_exe program.kind ≡ true
  leave : (flags_at launch.table path).no_exec ≡ false
  plain : is_privileged (marks_of program) ≡ false

module _ (settings : FilterSettings) (table : calls.Table) (site : Site) (wanted : Wanted) (plan : Table) (last : World) (steps : ℕ) (whole : IsWhole table) (arch : HasWordArchs table) (is : IsSite site) (refusing : AreRefusing settings) (can : CanBeMounted (site_host site) plan) (small : wanted.uid < no_id) (keeps : KeepsForUser wanted) (meant : AllByRecursion (IsMeant settings table) wanted.programs) (e : launch table site wanted plan ≡ Launched last steps) where
  facts_by : (b : Bool) → is_privileged_row (finds (row_at site.rows) plan wanted.program) ≡ b
      → cond b (PrivilegedProgram wanted.program) (launch_from (start_world table site) (launch_steps table.calls wanted plan) 0)
      ≡ Launched last steps → (own : Launch) × Facts own wanted.program last
  facts_by true priv e' = cc
  facts_by false unmarked e' =
      let calls' = launch_calls table whole in
      let l = (launched_leads (start_world table site) (launch_steps table.calls wanted plan) 0 last steps e').0 in
      let x = launches table site calls' wanted plan last (begins_at_host (site_host site) plan can) small keeps l in
      let ran' = x.ends.ran in
      let own : Launch = record { calls = table; site = site; creds = ran'.after; stack = x.stack; table = plan } in
      let world : IsLaunchedWorld last = launched_is_world settings table site wanted plan last steps whole arch refusing can small keeps meant e in
      let launched : IsLaunched own = subst IsLaunched x.ends.is world.launched in
      let bounded : IsWithin ran'.after.bounding all = subst (λ (set : ℕ). IsWithin set all) (sym ran'.bounding) x.ends.ready.has.bounding in
      let plain : is_privileged (marks_of ran'.program) ≡ false = ap (λ b. b && is_privileged (marks_of ran'.program)) (sym ran'.exe) ∙ ap is_privileged_row (sym ran'.is) ∙ unmarked in
      let offers : Offers own = record {
        calls = whole.sound;
        site = is;
        plan = can;
        program = has_program own launched whole is can wanted.program ran'.program ran'.is ran'.exe ran'.leave plain;
        execs = execs own launched whole is can (number_of table.calls (codes "execve")) calls'.execve x.ends.through;
        bounding = small_set ran'.after.bounding bounded;
        inheritable = small_set ran'.after.inheritable
            (within_through ran'.after.inheritable ran'.after.bounding all launched.inheritable_bounding bounded);
        alike = settings_pass_alike own settings arch (archs_differ table whole.sound)
            (read_means settings table wanted.programs x.stack x.read meant) launched.plain;
      } in
      let few = few_tables table calls' wanted site plan last l in
      (own, record { launched = world; few = omega (arith, few); offers = subst Offers (sym x.ends.is) offers; is = x.ends.is; program = ran'.program; found = ran'.is; exe = ran'.exe; leave = ran'.leave; plain = plain })

  facts : (own : Launch) × Facts own wanted.program last
  facts = facts_by (is_privileged_row (finds (row_at site.rows) plan wanted.program)) refl e

pub launched_is_served : LaunchedIsServed
launched_is_served settings table site wanted plan last steps whole arch is refusing can small keeps meant e =
    let f = (facts settings table site wanted plan last steps whole arch is refusing can small keeps meant e).1 in
    record { launched = f.launched; few = f.few; offers = f.offers }

pub launched_runs_program : LaunchedRunsProgram
launched_runs_program settings table site wanted plan last steps whole arch is refusing can small keeps meant named e =
    let f = facts settings table site wanted plan last steps whole arch is refusing can small keeps meant e in
    let found : FindsRow (row_at f.0.site.rows) f.0.table (fits ToExec) f.1.program = record { path = wanted.program; can_be_named = named; is_found = f.1.found; is_allowed = ap not f.1.leave } in
    let runs : RunsProgram f.0 wanted.program = (record { program = f.1.program; found = found; exe = f.1.exe; plain = f.1.plain }, refl) in
    subst (λ (l : Launch). RunsProgram l wanted.program) (sym f.1.is) runs
