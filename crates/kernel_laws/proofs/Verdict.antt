-- What the ceiling closes is denied.
use Rattle.std.proofs.Common.{◌≡◌, ◌⊎◌, ℕ, inl, inr, cond, eqb, Bool, true, false, List, ◌++◌, Option, Some, None, refl, ap, ◌∙◌, sym}
use Rattle.std.proofs.Common.{subst}
use Rattle.std.specs.Prelude.{slice_get, not, ◌&&◌, ◌||◌, ◌-◌, is_some, nat_le}
use Rattle.std.specs.List as list
use Rattle.std.specs.List.{list_any}
use Rattle.std.specs.Str.{bytes_eq}
use Rattle.std.proofs.lemmas.Slice.Eq.{bytes_eq-Decides}
use Rattle.filter_settings.specs.call_table.call_names.Known.{known_call}
use Rattle.std.proofs.lemmas.Bool.{eqb-true, eq-eqb, and_from, or_left, or_right, or_cases, and_parts}
use Rattle.filter_settings.specs.bpf_code.declared.machine.Insn.{Insn}
use Rattle.filter_settings.specs.bpf_code.declared.decision.Decision.TheVariants as decision
use Rattle.filter_settings.specs.bpf_code.Stack.{decision_on}
use Rattle.kernel_model.specs.kern_creds.declared.creds.Creds.{Creds}
use Rattle.kernel_model.specs.abs_path.Paths.{Path}
use Rattle.kernel_model.specs.cap_sets.Sets.{has, within, IsWithin}
use Rattle.kernel_model.proofs.OfCapSets.Members.{within-from_IsWithin, IsWithin-from_within, within_through}
use Rattle.filter_settings.specs.call_table.declared.call_names.kernel.Kernel.{Kernel}
use Rattle.filter_settings.specs.call_table.declared.listed.CallLine.{CallLine}
use Rattle.filter_settings.specs.call_table.Table as calls
use Rattle.filter_settings.specs.call_table.Lookups.{numbered}
use Rattle.filter_settings.specs.linux_numbers.Errnos.{einval}
use Rattle.kernel_model.specs.site_table.declared.row.Row.{Row}
use Rattle.kernel_model.specs.site_table.Table.{Site, row_at}
use Rattle.kernel_model.specs.kern_creds.Exec.{is_refused}
use Rattle.kernel_model.specs.kern_mounts.Finds.{row, finds}
use Rattle.kernel_model.specs.kern_mounts.Split.{Table}
use Rattle.kernel_laws.specs.Bounds.{Bounds, Keeps, KeepsIn}
use Rattle.kernel_model.specs.declared.kernel_calls.call.Call.{Call}
use Rattle.kernel_model.specs.kernel_calls.Calls.{IsCall}
use Rattle.kernel_model.specs.declared.kernel_calls.rule.Rule.TheVariants as rule
use Rattle.kernel_model.specs.declared.kernel_calls.rule.Rule.{Rule}
use Rattle.kernel_model.specs.kernel_calls.Rules.{rule_of, rule_by}
use Rattle.kernel_model.specs.kernel_calls.Operation as d
use Rattle.kernel_model.specs.kernel_calls.Operation.{Operation, Does, asked_of, bare, operation_by}
use Rattle.kernel_model.specs.declared.kernel_calls.request.Request.{Request}
use Rattle.kernel_model.specs.declared.kernel_calls.request.Request.TheVariants as ask
use Rattle.kernel_model.specs.Effects as f
use Rattle.kernel_model.specs.Effects.{Effect, effect_of, attributes_effect, no_pair, socket_effect, sockets_effect}
use Rattle.kernel_model.specs.kern_files.Looking.{flags_at}
use Rattle.kernel_model.specs.kern_files.Executing.{marks_of}
use Rattle.kernel_model.specs.World.{World, mounts_of, table_of, host_of, caller_of, is_newer}
use Rattle.kernel_model.specs.declared.process.Process.{Process}
use Rattle.kernel_model.specs.Runs.{moment_at, run}
use Rattle.kernel_laws.specs.declared.question_types.wish.Wish.{Wish}
use Rattle.kernel_laws.specs.declared.question_types.wish.Wish.TheVariants.{See as ToSee, Read as ToRead, Write as ToWrite, Exec as ToExec}
use Rattle.filter_settings.specs.linux_numbers.declared.namespaces.NamespaceType.{NamespaceType}
use Rattle.kernel_laws.specs.declared.question_types.question.Question.{Question}
use Rattle.kernel_laws.specs.declared.question_types.power.Power.{Power}
use Rattle.kernel_laws.specs.declared.question_types.kind.CallKind.{CallKind}
use Rattle.kernel_laws.specs.declared.question_types.question.Question.TheVariants as asking
use Rattle.filter_settings.specs.linux_numbers.declared.namespaces.NamespaceType.TheVariants as namespace
use Rattle.kernel_laws.specs.declared.question_types.kind.CallKind.TheVariants as k
use Rattle.kernel_laws.specs.Questions.{is_plain, IsAsked}
use Rattle.kernel_laws.specs.Denied.{path_for, requested_path, ReachesRow, ReachesCall, Performs, Reaches, Holds, IsDenied, is_family, asks_family}
use Rattle.kernel_laws.specs.Denied.{asks_space, asks_map, asks_protect, asks_attach, asks_realtime, is_realtime, asks_personality, asks_mode}
use Rattle.kernel_laws.specs.Reach.{Leads, fits, mount_wish, reaches, runs_unmarked}
use Rattle.kernel_laws.specs.Kinds.{asks, asks_number}
use Rattle.kernel_laws.specs.Launched.{Launch, data_at, lets, lets_line, can_make_user, can_submit, IsLaunched, launch_of}
use Rattle.kernel_laws.specs.Ceiling.{IsHeld, IsStable, TableIn}
use Rattle.kernel_laws.specs.Bound.{power_of, ceiling, is_open, can_reach, is_to_exec, is_user, is_barred, can_have_cap, runs_plainly}
use Rattle.kernel_laws.specs.Bound.{can_have_for, if_listed, is_call_open, can_ask, can_make_socket, can_write, can_create}
use Rattle.kernel_laws.specs.NewerTables.{CanHaveNewer}
use Rattle.kernel_laws.proofs.NewerTables.{tables_stable, rows_are_reached}
use Rattle.kernel_model.specs.kern_mounts.Mounts.{Mounts, steps_of}
use Rattle.kernel_model.specs.Step.{has_user_left}
use Rattle.kernel_laws.specs.Laws.{DenialIsSound}
use Rattle.kernel_laws.proofs.Runs.{through_of, own_allowed, first_allowed, can_make_one}
use Rattle.kernel_laws.proofs.Moments.{no_moment}
use Rattle.kernel_laws.proofs.Done.{WasDone, was_done}
use Rattle.kernel_laws.proofs.Filters.{bare_is, lets_through, line_lets, HasRule, has_rule, Asks, asks_for, at_position, any_found}
use Rattle.kernel_laws.proofs.Filters.{found_all, among_all, all_in, slice_all}
use Rattle.kernel_laws.proofs.Bound.{listed_any}
use Rattle.kernel_laws.proofs.Reach.{leads, listed, reaches_if}
use Rattle.kernel_laws.proofs.Held.{AllHeld, launched_held, ceiling_step, ceiling_run, cap_within, uid_within, gid_within}
use Rattle.kernel_laws.proofs.KeptExec.{off}
use Rattle.kernel_laws.proofs.Newer.{ids_of}
use Rattle.kernel_laws.proofs.Sound.{DoneBy, MadeSpace, wish_fits, run_taken, space_done, cap_done}
use Rattle.kernel_laws.proofs.Sound.{map_done, attach_done, ring_done, written_done, fits_kept}

module _ (launch : Launch) (l : IsLaunched launch) (below : Mounts → Type 0) (stable : IsStable launch (power_of launch) below) where
  abbrev power : Power
  power = power_of launch

  abbrev top : Bounds
  top = ceiling launch

  abbrev All : World → Type 0
  All = AllHeld launch below

  held_of : (now : World) (call : Call) → All now → (w : WasDone now call) → IsHeld launch power top below now.namespaces w.process
  held_of now call held w = held.each (call.pid - 1) w.process w.living.place

  kind_lets : (now : World) (call : Call) → IsCall call → All now → (w : WasDone now call) → (kind : CallKind) → asks kind w.operation ≡ true
      → lets launch kind ≡ true
  kind_lets now call fit held w kind asked =
      through_of launch power top below (lets_through launch l) now call w.process fit held
      (held_of now call held w) w.let_through w.operation w.asks kind asked

  -- one call asks for one thing
  same_operation : (now : World) (call : Call) (one other : Operation) → asked_of now.calls call ≡ Does one → asked_of now.calls call ≡ Does other
      → one ≡ other
  same_operation now call one other e g = cc

  kind_of : (now : World) (call : Call) → IsCall call → All now → (such : Operation → Bool) → (p : Performs such (moment_at now call))
      → (kind : CallKind) → ((operation : Operation) → such operation ≡ true → asks kind operation ≡ true) → lets launch kind ≡ true
  kind_of now call fit held such p kind h =
      let w = was_done now call p.done in
      let same = same_operation now call p.operation w.operation p.is w.asks in
      kind_lets now call fit held w kind (h w.operation (ap such (sym same) ∙ p.such))

  -- a request to a ring that is done shows that rings can be set up, and that requests pass
  submits : (now : World) (call : Call) → IsCall call → All now → (w : WasDone now call) → (request : Request) → w.operation ≡ d.Submit request
      → can_submit launch ≡ true
  submits now call fit held w request is =
      let P : Operation → Type 0 = λ own. DoneBy now call.pid w.process (effect_of (host_of now) (caller_of now w.process) own) in
      let on = (ring_done now call.pid w.process request (subst P is w.done)).0 in
      and_from _ _ ((ids_of (is_newer w.process) top w.process.creds (held_of now call held w).creds).ring on)
      (kind_lets now call fit held w k.Submits (ap (asks k.Submits) is))

  -- the bounds of a process of the first user namespace
  kept_first : (now : World) (call : Call) → All now → (w : WasDone now call) → is_newer w.process ≡ false → Keeps top w.process.creds
  kept_first now call held w first = let P : Bool → Type 0 = λ b. KeepsIn b top w.process.creds in subst P first (held_of now call held w).creds

  -- a capability of such a process is in the ceiling
  has_top : (now : World) (call : Call) → All now → (w : WasDone now call) → is_newer w.process ≡ false → (number : ℕ)
      → has w.process.creds.effective number ≡ true → has top.effective number ≡ true
  has_top now call held w first number h = (kept_first now call held w first).effective.each number h

  -- ---- paths
  -- execve runs no barred row where it looks at the marks of programs
  not_barred : (now : World) (call : Call) → All now → (w : WasDone now call) → is_newer w.process ≡ false → (path : Path) (target : Row)
      → finds (row_at launch.site.rows) (table_of now w.process.namespace) path ≡ row target
      → fits ToExec (flags_at (table_of now w.process.namespace) path) ≡ true
      → is_refused w.process.creds (marks_of target) (flags_at (table_of now w.process.namespace) path).no_suid ≡ false
      → runs_plainly launch power target ≡ false → is_barred launch target ≡ false
  not_barred now call held w first path target found runs r elsewhere = by (flags_at (table_of now w.process.namespace) path).no_suid refl
    where
      table : Table
      table = table_of now w.process.namespace

      marked : (e b : Bool) → within target.caps w.process.creds.bounding ≡ b → (e && not b) ≡ false
          → IsWithin w.process.creds.bounding launch.creds.bounding → (e && not (within target.caps launch.creds.bounding)) ≡ false
      marked false b is g within' = refl
      marked true false is g within' = cc
      marked true true is g within' = ap not (within-from_IsWithin _ _ (within_through _ _ _ (IsWithin-from_within _ _ is) within'))

      by : (b : Bool) → (flags_at table path).no_suid ≡ b → is_barred launch target ≡ false
      by true is =
          let h = held_of now call held w in
          let allowed = (first_allowed launch power top below now w.process h first).entries in
          let lead = leads launch.site.rows table path target runs_unmarked found (and_from _ _ runs is) in
          let there = reaches_if power launch.table table target.path runs_unmarked allowed lead in
          let no' : true ≡ false = sym there ∙ elsewhere in cc
      by false is =
          let own : (not false && target.effective) && not (within target.caps w.process.creds.bounding) ≡ false = ap (λ b. (not b && target.effective) && not (within target.caps w.process.creds.bounding)) (sym is) ∙ r in
          marked target.effective (within target.caps w.process.creds.bounding) refl own (kept_first now call held w first).bounding

  free : (exec barred plain make : Bool) → (exec ≡ true → plain ≡ false → make ≡ false → barred ≡ false)
      → not (((exec && barred) && not plain) && not make) ≡ true
  free true true true make h = refl
  free true true false true h = refl
  free true true false false h = let no' : true ≡ false = h refl refl refl in cc
  free true false plain make h = refl
  free false barred plain make h = refl

  -- who is in a newer user namespace has shown that one can be made
  first_if : (now : World) (call : Call) → All now → (w : WasDone now call) → can_make_user launch ≡ false → is_newer w.process ≡ false
  first_if now call held w off = by (is_newer w.process) refl
    where
      by : (b : Bool) → is_newer w.process ≡ b → b ≡ false
      by true e = let on = (held_of now call held w).made e in cc
      by false e = refl

  -- what a table of a newer user namespace leads to is reached without it
  abbrev LeadsToReached : Type 0
  LeadsToReached = (mounts : Mounts) (target : Path) (wish : Wish) → below mounts → Leads (steps_of mounts) target wish
      → reaches power launch.table target wish ≡ true

  reaches_in : LeadsToReached → (ours : Bool) (mounts : Mounts) (target : Path) (wish : Wish) → TableIn ours launch power below mounts
      → Leads (steps_of mounts) target wish → reaches power launch.table target wish ≡ true
  reaches_in less true mounts target wish allowed lead = reaches_if power launch.table (steps_of mounts) target (fits wish) allowed.entries lead
  reaches_in less false mounts target wish allowed lead = less mounts target wish allowed lead

  only_exec : (wish : Wish) → is_to_exec wish ≡ true → wish ≡ ToExec
  only_exec ToSee e = cc
  only_exec ToRead e = cc
  only_exec ToWrite e = cc
  only_exec ToExec e = refl

  -- what names a path by a request executes nothing
  no_exec : (wish : Wish) (request : Request) (path : Path) → requested_path wish request ≡ Some path → not (is_to_exec wish) ≡ true
  no_exec ToSee request path e = refl
  no_exec ToRead request path e = refl
  no_exec ToWrite request path e = refl
  no_exec ToExec request path e = cc

  -- the call for the wish passes, or a request for it can be submitted
  asked_for : (now : World) (call : Call) → IsCall call → All now → (w : WasDone now call) → (wish : Wish) (path : Path) (operation : Operation)
      → w.operation ≡ operation → path_for wish operation ≡ Some path → can_ask launch wish ≡ true
  asked_for now call fit held w wish path (d.Submit request) is e =
      or_right (lets launch (k.ForPath wish)) _ (and_from _ _ (no_exec wish request path e) (submits now call fit held w request is))
  asked_for now call fit held w wish path operation is e =
      or_left _ _ (kind_lets now call fit held w (k.ForPath wish) (ap (asks (k.ForPath wish)) is ∙ ap is_some e))

  row_open : LeadsToReached → (wish : Wish) (place : ℕ) (now : World) (call : Call) → IsCall call → All now
      → ReachesRow wish place (moment_at now call) → is_open launch (asking.Path wish place) ≡ true
  row_open less wish place now call fit held r =
      let w = was_done now call r.done in
      let same = same_operation now call r.operation w.operation r.asks w.asks in
      let one : r.process ≡ w.process = (let made = w.living.made in let own = r.caller in cc) in
      let wanted : path_for wish w.operation ≡ Some r.path = ap (path_for wish) (sym same) ∙ r.wanted in
      let table = table_of now w.process.namespace in
      let found : finds (row_at now.site.rows) table r.path ≡ row r.target = ap (λ (p : Process). finds (row_at now.site.rows) (table_of now p.namespace) r.path) (sym one) ∙ r.found in
      let seen : finds (row_at launch.site.rows) table r.path ≡ row r.target = ap (λ (s : Site). finds (row_at s.rows) table r.path) (sym held.site) ∙ found in
      let listed : slice_get launch.site.rows place ≡ Some r.target = ap (λ (s : Site). slice_get s.rows place) (sym held.site) ∙ r.listed in
      let passes = asked_for now call fit held w wish r.path w.operation refl wanted in
      let fit' = wish_fits now call.pid w.process wish w.operation r.path r.target wanted found w.done in
      let lead = leads launch.site.rows table r.path r.target (fits (mount_wish r.target.kind wish)) seen fit' in
      let h = held_of now call held w in
      let there = reaches_in less (eqb h.space.owner 1) (mounts_of now w.process.namespace) r.target.path (mount_wish r.target.kind wish) (own_allowed launch power top below now w.process h) lead in
      let open' = free (is_to_exec wish) (is_barred launch r.target) (runs_plainly launch power r.target) (can_make_user launch) (λ exec elsewhere off.
      let is_exec = only_exec wish exec in
      let runs : fits ToExec (flags_at table r.path) ≡ true = ap (λ (v : Wish). fits (mount_wish r.target.kind v) (flags_at table r.path)) (sym is_exec) ∙ fit' in
      let wanted' : path_for ToExec w.operation ≡ Some r.path = ap (λ (v : Wish). path_for v w.operation) (sym is_exec) ∙ wanted in
      not_barred now call held w (first_if now call held w off) r.path r.target seen runs (run_taken now call.pid w.process w.operation r.path r.target wanted' found w.done) elsewhere) in
      ap (if_listed (can_reach launch power wish)) listed ∙ and_from _ _ (and_from _ _ passes there) open'

  -- ---- plain calls
  can_cap : (now : World) (call : Call) → All now → (w : WasDone now call) → (cap' : Option ℕ) (value : ℕ)
      → DoneBy now call.pid w.process (f.first_alone (is_newer w.process) cap' (f.with_cap_of cap' w.process.creds (f.Answer value)))
      → can_have_cap top cap' ≡ true
  can_cap now call held w None value h = refl
  can_cap now call held w (Some number) value h =
      let done = cap_done now call.pid w.process (is_newer w.process) (Some number) value number refl h in
      has_top now call held w done.0 number done.1

  -- a name has one rule
  one_rule : (line other : CallLine) → line.kernel ≡ other.kernel → line.name ≡ other.name → line.cap ≡ other.cap
      → rule_of line ≡ rule_of other
  unfolding rule_of
  one_rule line other kernel name cap' =
      ap (λ k. rule_by (known_call k line.name) line.cap) kernel ∙ ap (λ n. rule_by (known_call other.kernel n) line.cap) name
      ∙ ap (rule_by (known_call other.kernel other.name)) cap'

  same_rule : (place nr abi : ℕ) (line called : CallLine) → slice_get (calls.every_call launch.calls) place ≡ Some line
      → numbered nr (calls.calls_in launch.calls abi) ≡ Some called → line.name ≡ called.name → rule_of line ≡ rule_of called
  same_rule place nr abi line called listed found name =
      let caps = slice_all (λ one. list.All (λ other. one.name ≡ other.name → one.cap ≡ other.cap) (calls.every_call launch.calls)) (calls.every_call launch.calls) place line l.one_cap listed in
      let cap' = found_all (λ other. line.name ≡ other.name → line.cap ≡ other.cap) (calls.calls_in launch.calls abi) nr called (all_in (λ other. line.name ≡ other.name → line.cap ≡ other.cap) launch.calls abi caps) found in
      let by : Kernel = l.one_kernel.0 in
      let own : line.kernel ≡ by = slice_all (λ (one : CallLine). one.kernel ≡ by) (calls.every_call launch.calls) place line l.one_kernel.1 listed in
      let other : called.kernel ≡ by = found_all (λ one. one.kernel ≡ by) (calls.calls_in launch.calls abi) nr called (all_in (λ one. one.kernel ≡ by) launch.calls abi l.one_kernel.1) found in
      one_rule line called (own ∙ sym other) name (cap' name)

  plain_open : (place : ℕ) (now : World) (call : Call) → IsAsked launch.calls (asking.Call place) → IsCall call → All now
      → ReachesCall place (moment_at now call) → is_open launch (asking.Call place) ≡ true
  plain_open place now call asked fit held r =
      let w = was_done now call r.done in
      let lines : List CallLine = calls.calls_in launch.calls call.abi in
      let listed : slice_get (calls.every_call launch.calls) place ≡ Some r.line = ap (λ (c : calls.Table). slice_get (calls.every_call c) place) (sym held.calls) ∙ r.listed in
      let own : asked_of launch.calls call ≡ Does w.operation = ap (λ (c : calls.Table). asked_of c call) (sym held.calls) ∙ w.asks in
      let a = asks_for launch.calls call w.operation own in
      let h = has_rule lines call.nr a.rule a.at in
      let here : numbered call.nr lines ≡ Some r.called = ap (λ (c : calls.Table). numbered call.nr (calls.calls_in c call.abi)) (sym held.calls) ∙ r.found in
      let same : h.line ≡ r.called = (let e = h.found in cc) in
      let is_rule : rule_of r.line ≡ Some a.rule = same_rule place call.nr call.abi r.line r.called listed here r.same ∙ ap rule_of (sym same) ∙ h.is in
      let plain : is_plain (Some a.rule) ≡ true = ap is_plain (sym is_rule) ∙ asked r.line listed in
      let lets' : lets_line launch k.PlainCall h.line ≡ true = by_lets w a h plain in
      let named : bytes_eq r.line.name h.line.name ≡ true = (bytes_eq-Decides r.line.name h.line.name).1 (r.same ∙ ap (λ (x : CallLine). x.name) (sym same)) in
      let p : CallLine → Bool = λ other. bytes_eq r.line.name other.name && lets_line launch k.PlainCall other in
      let some : list_any p (calls.every_call launch.calls) ≡ true = among_all p launch.calls call.abi (any_found p lines call.nr h.line h.found (and_from _ _ named lets')) in
      ap (if_listed (is_call_open launch top)) listed
      ∙ and_from _ _ some (ap (can_have_for top) is_rule ∙ by_cap w a.rule plain a.is)
    where
      by_lets : (w : WasDone now call) (a : Asks (calls.calls_in launch.calls call.abi) call w.operation)
          (h : HasRule (calls.calls_in launch.calls call.abi) call.nr a.rule) → is_plain (Some a.rule) ≡ true
          → lets_line launch k.PlainCall h.line ≡ true
      by_lets w a h plain =
          let g = held_of now call held w in
          let passed : decision_on (launch.stack ++ g.newer) (data_at launch call.abi call.nr call.args) ≡ decision.Pass =
          ap (λ (c : calls.Table). decision_on (launch.stack ++ g.newer)
          (record { nr = call.nr; arch = calls.arch_of c call.abi; ip = 0; args = call.args })) (sym held.calls)
          ∙ ap (λ (s : List (List Insn)). decision_on s (record { nr = call.nr; arch = calls.arch_of now.calls call.abi; ip = 0; args = call.args })) (sym g.stack) ∙ w.passed in
          line_lets launch l g.newer call w.operation fit passed k.PlainCall (by_rule a.rule plain a.is) a h
        where
          by_rule : (r : Rule) → is_plain (Some r) ≡ true → operation_by r call.args call.payload ≡ Some w.operation
              → asks k.PlainCall w.operation ≡ true
          by_rule (rule.Plain cap') plain e = let P : Operation → Type 0 = λ x. asks k.PlainCall x ≡ true in subst P (bare_is w.operation (d.Plain cap') call.payload e) refl
          by_rule r plain e = cc

      by_cap : (w : WasDone now call) (r : Rule) → is_plain (Some r) ≡ true → operation_by r call.args call.payload ≡ Some w.operation
          → can_have_for top (Some r) ≡ true
      by_cap w (rule.Plain cap') plain e =
          let P : Operation → Type 0 = λ x. DoneBy now call.pid w.process (effect_of (host_of now) (caller_of now w.process) x) in
          can_cap now call held w cap' 0 (subst P (sym (bare_is w.operation (d.Plain cap') call.payload e)) w.done)
      by_cap w r plain e = cc

  -- ---- sockets
  -- a socket of the family of a place is made, by a call that passes or by a request, with this value
  family_made : (place : ℕ) (now : World) (call : Call) → All now → (w : WasDone now call) → (family value : ℕ)
      → is_family (slice_get now.calls.families place) family ≡ true → can_make_socket launch family ≡ true
      → DoneBy now call.pid w.process (sockets_effect value (is_newer w.process) w.process.creds (numbered family now.calls.families))
      → is_open launch (asking.Socket place) ≡ true
  family_made place now call held w family value e can done = by (slice_get now.calls.families place) refl e
    where
      by : (o : Option CallLine) → slice_get now.calls.families place ≡ o → is_family o family ≡ true
          → is_open launch (asking.Socket place) ≡ true
      by None is e = cc
      by (Some line) is e =
          let same : family ≡ line.number = eqb-true family line.number e in
          let listed : slice_get launch.calls.families place ≡ Some line = ap (λ (c : calls.Table). slice_get c.families place) (sym held.calls) ∙ is in
          let found = at_position launch.calls.families line.number place line (l.families_once place line listed) listed in
          let here : numbered family now.calls.families ≡ Some line = ap (λ (c : calls.Table). numbered family c.families) held.calls ∙ ap (λ n. numbered n launch.calls.families) same ∙ found in
          let P : Option CallLine → Type 0 = λ o. DoneBy now call.pid w.process (sockets_effect value (is_newer w.process) w.process.creds o) in
          ap (if_listed (λ line. can_make_socket launch line.number && can_have_cap top line.cap)) listed
          ∙ and_from _ _ (ap (can_make_socket launch) (sym same) ∙ can) (can_cap now call held w line.cap value (subst P here done))

  -- the call for the family passes
  family_lets : (now : World) (call : Call) → IsCall call → All now → (w : WasDone now call) → (family : ℕ)
      → asks_number family w.operation ≡ true → can_make_socket launch family ≡ true
  family_lets now call fit held w family asked = or_left _ _ (kind_lets now call fit held w (k.ForFamily family) asked)

  family_open : (place : ℕ) (now : World) (call : Call) → IsCall call → All now → (w : WasDone now call) → (operation : Operation)
      → w.operation ≡ operation → asks_family now.calls.families place operation ≡ true
      → DoneBy now call.pid w.process (effect_of (host_of now) (caller_of now w.process) operation)
      → is_open launch (asking.Socket place) ≡ true
  family_open place now call fit held w (d.Socket family) is e done =
      family_made place now call held w family 3 e
      (family_lets now call fit held w family (ap (asks_number family) is ∙ eq-eqb family family refl)) done
  family_open place now call fit held w (d.Socketcall op family) is e done =
      let both = and_parts (eqb op 1) (is_family (slice_get now.calls.families place) family) e in
      let P : Bool → Type 0 = λ b. DoneBy now call.pid w.process (cond b (socket_effect (is_newer w.process) w.process.creds (numbered family now.calls.families)) (cond (nat_le 2 op && nat_le op 20) (f.Answer 0) (f.Refuse einval))) in
      family_made place now call held w family 3 both.1
      (family_lets now call fit held w family (ap (asks_number family) is ∙ and_from _ _ both.0 (eq-eqb family family refl)))
      (subst P both.0 done)
  family_open place now call fit held w (d.Socketpair family) is e done =
      let both = and_parts (eqb family 1) (is_family (slice_get now.calls.families place) family) e in
      let P : Bool → Type 0 = λ b. DoneBy now call.pid w.process (cond b (sockets_effect 0 (is_newer w.process) w.process.creds (numbered family now.calls.families)) (no_pair (numbered family now.calls.families))) in
      family_made place now call held w family 0 both.1
      (family_lets now call fit held w family (ap (asks_number family) is ∙ and_from _ _ both.0 (eq-eqb family family refl)))
      (subst P both.0 done)
  family_open place now call fit held w (d.Submit (ask.Socket family)) is e done =
      family_made place now call held w family 3 e
      (or_right (lets launch (k.ForFamily family)) _ (submits now call fit held w (ask.Socket family) is))
      (ring_done now call.pid w.process (ask.Socket family) done).1
  family_open place now call fit held w operation is e done = cc

  socket_open : (place : ℕ) (now : World) (call : Call) → IsCall call → All now
      → Performs (asks_family now.calls.families place) (moment_at now call) → is_open launch (asking.Socket place) ≡ true
  socket_open place now call fit held p =
      let w = was_done now call p.done in
      let same = same_operation now call p.operation w.operation p.is w.asks in
      family_open place now call fit held w w.operation refl (ap (asks_family now.calls.families place) (sym same) ∙ p.such) w.done

  -- ---- realtime policies
  -- the effect of sched_setattr(2) with such a policy
  attributes_given : (newer : Bool) (creds : Creds) (policy : ℕ) → is_realtime policy ≡ true → attributes_effect newer creds policy
      ≡ f.first_alone newer (Some 23) (f.with_cap_of (Some 23) creds (f.Answer 0))
  attributes_given newer creds policy e = by (or_cases (eqb policy 1) (eqb policy 2) e)
    where
      at : (known : ℕ) → policy ≡ known → attributes_effect newer creds known ≡ f.first_alone newer (Some 23) (f.with_cap_of (Some 23) creds (f.Answer 0))
          → attributes_effect newer creds policy ≡ f.first_alone newer (Some 23) (f.with_cap_of (Some 23) creds (f.Answer 0))
      at known same given = ap (attributes_effect newer creds) same ∙ given

      by : (eqb policy 1 ≡ true) ⊎ (eqb policy 2 ≡ true) → attributes_effect newer creds policy ≡ f.first_alone newer (Some 23) (f.with_cap_of (Some 23) creds (f.Answer 0))
      by (inl one) = at 1 (eqb-true policy 1 one) refl
      by (inr two) = at 2 (eqb-true policy 2 two) refl

  realtime_open : (now : World) (call : Call) → IsCall call → All now → Performs asks_realtime (moment_at now call)
      → is_open launch asking.Realtime ≡ true
  realtime_open now call fit held p =
      let w = was_done now call p.done in
      let same = same_operation now call p.operation w.operation p.is w.asks in
      by w w.operation refl (ap asks_realtime (sym same) ∙ p.such)
    where
      by : (w : WasDone now call) (own : Operation) → w.operation ≡ own → asks_realtime own ≡ true → is_open launch asking.Realtime ≡ true
      by w (d.Schedule policy) is e = or_left _ _ (kind_lets now call fit held w k.SchedulesRealtime (ap (asks k.SchedulesRealtime) is ∙ e))
      by w (d.SetAttributes policy) is e =
          let passes = kind_lets now call fit held w k.SetsRealtime (ap (asks k.SetsRealtime) is ∙ e) in
          let P : Effect → Type 0 = λ x. DoneBy now call.pid w.process x in
          let effect = ap (effect_of (host_of now) (caller_of now w.process)) is ∙ attributes_given (is_newer w.process) w.process.creds policy e in
          or_right (lets launch k.SchedulesRealtime) _ (and_from _ _ passes (can_cap now call held w (Some 23) 0 (subst P effect w.done)))
      by w own is e = cc

  -- ---- set-id bits
  -- what creat(2) writes can be written
  created_open : LeadsToReached → (now : World) (call : Call) → IsCall call → All now → (w : WasDone now call) → (mode : ℕ) (path : Path)
      → w.operation ≡ d.Create mode path → asks k.CreatesMode (d.Create mode path) ≡ true → can_create launch power ≡ true
  created_open less now call fit held w mode path is asked =
      let table = table_of now w.process.namespace in
      let flags = flags_at table path in
      let P : Operation → Type 0 = λ own. DoneBy now call.pid w.process (effect_of (host_of now) (caller_of now w.process) own) in
      let x = written_done now call.pid w.process 3 flags (finds (row_at now.site.rows) table path) (subst P is w.done) in
      let seen : finds (row_at launch.site.rows) table path ≡ row x.target = ap (λ (s : Site). finds (row_at s.rows) table path) (sym held.site) ∙ x.is in
      let wish = mount_wish x.target.kind ToWrite in
      let lead = leads launch.site.rows table path x.target (fits wish) seen (fits_kept flags x.target x.free) in
      let h = held_of now call held w in
      let there = reaches_in less (eqb h.space.owner 1) (mounts_of now w.process.namespace) x.target.path wish (own_allowed launch power top below now w.process h) lead in
      let own = listed launch.site.rows table path x.target seen in
      and_from _ _ (kind_lets now call fit held w k.CreatesMode (ap (asks k.CreatesMode) is ∙ asked))
      (listed_any (can_write launch power) launch.site.rows own.0 x.target own.1 (and_from _ _ (ap not x.file) there))

  suid_open : LeadsToReached → (now : World) (call : Call) → IsCall call → All now → Performs asks_mode (moment_at now call)
      → is_open launch asking.SuidBit ≡ true
  suid_open less now call fit held p =
      let w = was_done now call p.done in
      let same = same_operation now call p.operation w.operation p.is w.asks in
      by w w.operation refl (ap asks_mode (sym same) ∙ p.such)
    where
      by : (w : WasDone now call) (own : Operation) → w.operation ≡ own → asks_mode own ≡ true → is_open launch asking.SuidBit ≡ true
      by w (d.SetMode mode) is e =
          or_left _ _ (or_left _ _ (or_left _ _ (kind_lets now call fit held w k.SetsMode (ap (asks k.SetsMode) is ∙ e))))
      by w (d.Open flags mode path) is e =
          or_left _ _ (or_left _ _ (or_right (lets launch k.SetsMode) _
          (kind_lets now call fit held w k.OpensMode (ap (asks k.OpensMode) is ∙ e))))
      by w (d.Submit request) is e =
          or_left _ _ (or_right (lets launch k.SetsMode || lets launch k.OpensMode) _ (submits now call fit held w request is))
      by w (d.Create mode path) is e =
          or_right ((lets launch k.SetsMode || lets launch k.OpensMode) || can_submit launch) _
          (created_open less now call fit held w mode path is e)
      by w own is e = cc

  space_open : (space : NamespaceType) (now : World) (call : Call) → IsCall call → All now
      → Performs (asks_space space) (moment_at now call) → is_open launch (asking.Namespace space) ≡ true
  space_open space now call fit held p =
      let w = was_done now call p.done in
      let same = same_operation now call p.operation w.operation p.is w.asks in
      let asked : asks_space space w.operation ≡ true = ap (asks_space space) (sym same) ∙ p.such in
      let made = space_done now call.pid w.process space w.operation asked w.done in
      by (is_user space) refl (kind_lets now call fit held w (k.ForNamespace space) asked) made
    where
      can_make : (w : WasDone now call) → asks_space namespace.User w.operation ≡ true → has_user_left now ≡ true → can_make_user launch ≡ true
      can_make w asked left = can_make_one launch power top below stable now held
          (kind_lets now call fit held w (k.ForNamespace namespace.User) asked) left

      by : (user : Bool) → is_user space ≡ user → lets launch (k.ForNamespace space) ≡ true
          → MadeSpace now space (was_done now call p.done).process (was_done now call p.done).operation
          → cond user (can_make_user launch) (lets launch (k.ForNamespace space) && (has top.effective 21 || can_make_user launch)) ≡ true
      by user e let' (inl made) = by_made user (can_make (was_done now call p.done) made.0 made.1) let'
        where
          by_made : (user : Bool) → can_make_user launch ≡ true → lets launch (k.ForNamespace space) ≡ true
              → cond user (can_make_user launch) (lets launch (k.ForNamespace space) && (has top.effective 21 || can_make_user launch))
              ≡ true
          by_made true on let' = on
          by_made false on let' = and_from _ _ let' (or_right (has top.effective 21) (can_make_user launch) on)
      by true e let' (inr made) = let off = made.0 in cc
      by false e let' (inr made) = and_from _ _ let' (by_space (is_newer (was_done now call p.done).process) refl)
        where
          by_space : (b : Bool) → is_newer (was_done now call p.done).process ≡ b → (has top.effective 21 || can_make_user launch) ≡ true
          by_space true new = or_right (has top.effective 21) (can_make_user launch)
              ((held_of now call held (was_done now call p.done)).made new)
          by_space false first = or_left (has top.effective 21) (can_make_user launch)
              (has_top now call held (was_done now call p.done) first 21 made.1)

  -- ---- memory
  -- who has the mark of the launch has it for good
  mark_stays : (now : World) (call : Call) → All now → (w : WasDone now call) → launch.creds.mdwe ≡ true → w.process.creds.mdwe ≡ true
  mark_stays now call held w = (ids_of (is_newer w.process) top w.process.creds (held_of now call held w).creds).mdwe

  map_open : (now : World) (call : Call) → IsCall call → All now → Performs asks_map (moment_at now call)
      → is_open launch asking.MapWx ≡ true
  map_open now call fit held p =
      let w = was_done now call p.done in
      let same = same_operation now call p.operation w.operation p.is w.asks in
      let asked : asks_map w.operation ≡ true = ap asks_map (sym same) ∙ p.such in
      let free = off launch.creds.mdwe w.process.creds.mdwe (mark_stays now call held w) (map_done now call.pid w.process w.operation asked w.done) in
      and_from _ _ (ap not free) (kind_lets now call fit held w k.MapsWx asked)

  shm_open : (now : World) (call : Call) → IsCall call → All now → Performs asks_attach (moment_at now call)
      → is_open launch asking.ShmX ≡ true
  shm_open now call fit held p = by launch.creds.mdwe refl
    where
      such : (w : WasDone now call) → p.operation ≡ w.operation → asks_attach w.operation ≡ true
      such w same = ap asks_attach (sym same) ∙ p.such

      by : (m : Bool) → launch.creds.mdwe ≡ m → lets launch (cond m k.AttachesReadOnlyX k.AttachesX) ≡ true
      by true on =
          let w = was_done now call p.done in
          let asked = such w (same_operation now call p.operation w.operation p.is w.asks) in
          kind_lets now call fit held w k.AttachesReadOnlyX
          (attach_done now call.pid w.process w.operation asked w.done (mark_stays now call held w on))
      by false free =
          let w = was_done now call p.done in
          kind_lets now call fit held w k.AttachesX (such w (same_operation now call p.operation w.operation p.is w.asks))

  -- ---- states
  -- what is reached by a call from a world that is held, or holds there, is open
  reached_open : LeadsToReached → (question : Question) → IsAsked launch.calls question → (now : World) (call : Call) → IsCall call
      → All now → Reaches question (moment_at now call) → is_open launch question ≡ true
  reached_open less (asking.Path wish place) asked now call fit held r = row_open less wish place now call fit held r
  reached_open less (asking.Call place) asked now call fit held r = plain_open place now call asked fit held r
  reached_open less (asking.Socket place) asked now call fit held r = socket_open place now call fit held r
  reached_open less (asking.Namespace space) asked now call fit held r = space_open space now call fit held r
  reached_open less asking.MapWx asked now call fit held r = map_open now call fit held r
  reached_open less asking.ProtectX asked now call fit held r = kind_of now call fit held asks_protect r k.ProtectsX (λ operation e. e)
  reached_open less asking.ShmX asked now call fit held r = shm_open now call fit held r
  reached_open less asking.Realtime asked now call fit held r = realtime_open now call fit held r
  reached_open less asking.Personality asked now call fit held r =
      kind_of now call fit held asks_personality r k.TakesPersonality (λ operation e. e)
  reached_open less asking.SuidBit asked now call fit held r = suid_open less now call fit held r
  reached_open less (asking.Cap number) asked now call fit held r = absurd r
  reached_open less (asking.Uid id) asked now call fit held r = absurd r
  reached_open less (asking.Gid id) asked now call fit held r = absurd r

  held_open : (question : Question) (now : World) → All now → Holds question now → is_open launch question ≡ true
  held_open (asking.Cap number) now held s = cap_within launch power top below now held number s
  held_open (asking.Uid id) now held s = uid_within launch power top below now held id s
  held_open (asking.Gid id) now held s = gid_within launch power top below now held id s
  held_open (asking.Path wish place) now held s = absurd s
  held_open (asking.Call place) now held s = absurd s
  held_open (asking.Socket place) now held s = absurd s
  held_open (asking.Namespace space) now held s = absurd s
  held_open asking.MapWx now held s = absurd s
  held_open asking.ProtectX now held s = absurd s
  held_open asking.ShmX now held s = absurd s
  held_open asking.Realtime now held s = absurd s
  held_open asking.Personality now held s = absurd s
  held_open asking.SuidBit now held s = absurd s

  pub closed_denied : LeadsToReached → (world : World) → All world → (question : Question) → IsAsked launch.calls question
      → is_open launch question ≡ false → IsDenied world question
  closed_denied less world start question asked off = record {
    no_moment = λ list fit some. no_moment All (Reaches question) (ceiling_step launch l below stable)
        (λ now call fit held r. let on = reached_open less question asked now call fit held r in cc) world start list fit some;
    no_world = λ list fit s. let on = held_open question (run world list) (ceiling_run launch l below stable list world fit start) s in cc;
  }

pub denial_is_sound : DenialIsSound
denial_is_sound world question s asked off =
    let launch = launch_of world in
    let below : Mounts → Type 0 = CanHaveNewer (power_of launch) launch.table in
    closed_denied launch s.launched below (tables_stable launch (power_of launch) s.launched.ordered)
    (rows_are_reached (power_of launch) launch.table)
    world (launched_held world below s) question asked off
