-- What the ceiling leaves open is shown by a list of calls.
use Rattle.std.proofs.Common.{◌≡◌, ℕ, Bool, true, false, List, [], ◌∷◌, ◌++◌, Option, Some, None, refl, ap, ◌∙◌, sym, subst, inl}
use Rattle.std.proofs.Common.{inr, zero, suc}
use Rattle.std.specs.Prelude.{slice_get, not, nat_lt, ◌&&◌, ◌||◌}
use Rattle.std.proofs.lemmas.Slice.Eq.{bytes_eq-Decides}
use Rattle.std.proofs.lemmas.Bool.{and_parts, or_cases, not-true, eq-eqb}
use Rattle.launcher.specs.abs_path.Paths.{Path}
use Rattle.launcher.specs.cap_sets.Sets.{has}
use Rattle.launcher.specs.call_table.declared.listed.CallLine.{CallLine}
use Rattle.launcher.specs.call_table.Lookups.{numbered}
use Rattle.launcher.specs.site_table.declared.row.Row.{Row}
use Rattle.std.specs.List.{AllByRecursion}
use Rattle.launcher.specs.site_table.Table.{IsRowOf, row_at}
use Rattle.launcher.specs.kern_creds.declared.creds.Creds.{Creds}
use Rattle.launcher.specs.kern_creds.Exec.{exec_done, is_refused}
use Rattle.launcher.specs.kern_mounts.Finds.{row, finds}
use Rattle.launcher.specs.kernel_laws.Bound.{is_barred, is_to_exec, is_user, can_reach, can_have_cap, can_have_for, if_listed, runs_plainly}
use Rattle.launcher.specs.kernel_laws.Bound.{can_ask, can_create, can_make_socket, can_write, power_of, ceiling, is_open, is_call_open}
use Rattle.launcher.specs.kernel_model.declared.kernel_calls.call.Call.{Call}
use Rattle.launcher.specs.kernel_model.kernel_calls.Calls.{IsPath}
use Rattle.launcher.specs.kernel_laws.Denied.{asks_space, asks_family, asks_mode, is_family}
use Rattle.launcher.specs.kernel_model.kernel_calls.Operation as d
use Rattle.launcher.specs.kernel_model.declared.kernel_calls.payload.Payload.TheVariants as pay
use Rattle.launcher.specs.kernel_model.kernel_calls.Operation.{Operation}
use Rattle.launcher.specs.kernel_model.Effects.{SetCreds}
use Rattle.launcher.specs.kernel_model.kern_files.Looking.{flags_at}
use Rattle.launcher.specs.kernel_model.kern_files.Executing.{marks_of}
use Rattle.launcher.specs.kernel_laws.Kinds as k
use Rattle.launcher.specs.kernel_laws.declared.question_types.kind.CallKind.{CallKind}
use Rattle.launcher.specs.kernel_laws.declared.question_types.wish.Wish.{Wish}
use Rattle.launcher.specs.kernel_laws.declared.question_types.wish.Wish.TheVariants.{See as ToSee, Read as ToRead, Write as ToWrite}
use Rattle.launcher.specs.kernel_laws.declared.question_types.wish.Wish.TheVariants.{Exec as ToExec}
use Rattle.launcher.specs.linux_numbers.declared.namespaces.NamespaceType.{NamespaceType}
use Rattle.launcher.specs.kernel_laws.declared.question_types.question.Question.{Question}
use Rattle.launcher.specs.kernel_laws.declared.question_types.kind.CallKind.TheVariants as kinds
use Rattle.launcher.specs.linux_numbers.declared.namespaces.NamespaceType.TheVariants as namespace
use Rattle.launcher.specs.kernel_laws.declared.question_types.question.Question.TheVariants as asking
use Rattle.launcher.specs.kernel_laws.Launched.{Launch, IsLaunched, launch_of, lets, lets_line, can_make_user, can_submit}
use Rattle.launcher.specs.site_table.Kinds.{is_dir, is_exe}
use Rattle.launcher.specs.kern_mounts.Split.{Table}
use Rattle.reach_paths.specs.Finding.{FindsRow}
use Rattle.launcher.specs.kernel_laws.Reach.{fits, mount_wish, reaches, reaches_with, runs_unmarked}
use Rattle.launcher.specs.kern_mounts.declared.step.Flags.{Flags}
use Rattle.reach_paths.specs.Needs.{allows}
use Rattle.reach_paths.specs.declared.needs.Need.{Need}
use Rattle.reach_paths.specs.declared.needs.Need.TheVariants.{ForWish, Unmarked}
use Rattle.reach_paths.proofs.Found.{can_be_remounted}
use Rattle.launcher.specs.kernel_model.kernel_calls.Rules.{rule_of}
use Rattle.launcher.specs.kernel_model.World.{World}
use Rattle.launcher.proofs.OfKernelLaws.Filters.{at_position}
use Rattle.kernel_ways.specs.Laws.{IsFit, IsServedWorld, IsShown, OpenIsShown}
use Rattle.kernel_ways.specs.Offers.{Offers}
use Rattle.kernel_ways.specs.Showing.{Answers}
use Rattle.kernel_ways.specs.Ways.{place_of, Way, here, IsSolo}
use Rattle.kernel_ways.proofs.Solo.{way_join}
use Rattle.kernel_ways.proofs.Lines.{same_rule, Line, first_by, low_number, some_line, line_at, any_at, of_abi}
use Rattle.kernel_ways.proofs.Operations.{PathCall, Performed, creates_mode, see_path, read_path, write_path, exec_path}
use Rattle.kernel_ways.proofs.ByRing.{mode_asked, read_asked, ring_behind, ringing, see_asked, socket_asked, write_asked}
use Rattle.launcher.specs.kernel_model.declared.kernel_calls.request.Request.TheVariants as ask
use Rattle.kernel_ways.proofs.Performing as performing
use Rattle.std.proofs.Common.{cond}
use Rattle.kernel_ways.proofs.Performing.{CapAtHand, created_bit, is_free, makes_bit, read_attaches, schedules, sets_mode, sets_realtime}
use Rattle.kernel_ways.proofs.Rows.{IsKnown, known_at}
use Rattle.kernel_ways.proofs.Exposing.{exposed}
use Rattle.kernel_ways.proofs.Attained.{Gained, attained}
use Rattle.kernel_ways.proofs.Ids.{powered, uid_taken, gid_taken}
use Rattle.kernel_ways.proofs.Gains.{Basis, not_refused}
use Rattle.kernel_ways.proofs.Showing.{calls_show, creds_show}
use Rattle.kernel_ways.proofs.Starts.{starts_solo, performs}
use Rattle.launcher.specs.call_table.Table.{every_call, calls_in}
use Rattle.std.specs.List.{list_any}
use Rattle.std.specs.Str.{bytes_eq}
use Rattle.kernel_ways.proofs.Entering.{calls_show_inside}
use Rattle.kernel_ways.proofs.InUser.{enters, own_space, exec_inside}
use Rattle.launcher.specs.cap_sets.Sets.{all, IsWithin}

at_place : {X : Type 0} (P : X → Type 0) (xs : List X) (at : ℕ) (x : X) → AllByRecursion P xs → slice_get xs at ≡ Some x → P x
at_place P [] at x all e = cc
at_place P (y ∷ xs) zero x all e = let same : y ≡ x = cc in subst P same all.0
at_place P (y ∷ xs) (suc at) x all e = at_place P xs at x all.1 e

-- no request executes a file
pub without_ring : (passes submits : Bool) → (passes || (false && submits)) ≡ true → passes ≡ true
without_ring true submits e = refl
without_ring false submits e = e

module _ (world : World) (launch : Launch) (l : IsLaunched launch) (o : Offers launch) (s : IsSolo launch launch.creds launch.table world) where
  -- ---- rows
  by_path : (wish : Wish) (place : ℕ) (target : Row) → slice_get launch.site.rows place ≡ Some target → {calls : List Call}
      → (creds : Creds) (now : Table) → Way launch launch.creds launch.table calls creds now
      → (path : Path) → finds (row_at launch.site.rows) now path ≡ row target → {call : Call} → PathCall launch creds now wish path call
      → IsShown world (asking.Path wish place)
  by_path wish place target listed {calls = calls} creds now way path found {call = call} c =
      (calls ++ call ∷ [], calls_show launch launch.creds creds launch.table now world calls (asking.Path wish place) c.operation call c.effect s way c.makes c.doable (path, target, c.wanted, listed, found))

  exec_call : (creds : Creds) (now : Table) (path : Path) → IsPath path → (target : Row)
      → finds (row_at launch.site.rows) now path ≡ row target → is_exe target.kind ≡ true → fits ToExec (flags_at now path) ≡ true
      → is_refused creds (marks_of target) (flags_at now path).no_suid ≡ false → (line : Line launch (kinds.ForPath ToExec))
      → PathCall launch creds now ToExec path (first_by (place_of line.line) line.args (pay.OnePath path))
  exec_call creds now path fit target found exe runs admitted line =
      let x = exec_path launch creds now path fit target found exe runs admitted line in
      record { operation = d.Execve path; effect = SetCreds 0 (exec_done creds (marks_of target) (flags_at now path).no_suid); makes = x; doable = tt; wanted = refl }

  -- from the launch to the row at the launch's power
  module _ (place : ℕ) (target : Row) (listed : slice_get launch.site.rows place ≡ Some target) where
    abbrev rows : Path → Option Row
    rows = row_at launch.site.rows

    known_caps : (own : Row) → slice_get launch.site.rows place ≡ Some own → IsWithin own.caps all
    known_caps own e = (at_place (IsRowOf launch.site.rows) launch.site.rows place own o.site.each_row e).known_caps

    own_known : IsKnown launch.site target
    own_known = known_at launch.site o.site place target listed

    pub record Led (test : Flags → Bool) : Type 0 where
      pub calls : List Call
      pub creds : Creds
      pub now : Table
      pub way : Way launch launch.creds launch.table calls creds now
      pub basis : Basis launch creds
      pub found : FindsRow rows now test target

    led : (need : Need) → reaches_with (power_of launch) launch.table target.path (allows need) ≡ true → Led (allows need)
    led need e =
        let p = powered launch l o (power_of launch) refl in
        let x = exposed launch l o p.creds target own_known (allows need) (can_be_remounted need) (power_of launch) p.at_hand e in
        record { calls = p.calls ++ x.calls; creds = p.creds; now = x.now; way = way_join p.way x.way; basis = p.basis; found = x.found }

    -- by a call, or by a ring that is set up behind the way
    shown_see : can_ask launch ToSee ≡ true → Led (fits ToSee) → IsShown world (asking.Path ToSee place)
    shown_see asks x = elim (or_cases (lets launch (kinds.ForPath ToSee)) (can_submit launch) asks) [
      | inl passes ↦ by_path ToSee place target listed x.creds x.now x.way x.found.path x.found.is_found
          (see_path launch x.creds x.now x.found.path x.found.can_be_named target x.found.is_found
          (some_line launch l (kinds.ForPath ToSee) passes))
      | inr can ↦ (
          let r = ringing launch l can in
          by_path ToSee place target listed _ x.now (ring_behind launch launch.creds x.creds launch.table x.now x.calls x.way r) x.found.path
          x.found.is_found (see_asked launch x.creds x.now x.found.path x.found.can_be_named target x.found.is_found r))
    ]

    shown_read : can_ask launch ToRead ≡ true → Led (fits ToRead) → IsShown world (asking.Path ToRead place)
    shown_read asks x = elim (or_cases (lets launch (kinds.ForPath ToRead)) (can_submit launch) asks) [
      | inl passes ↦ by_path ToRead place target listed x.creds x.now x.way x.found.path x.found.is_found
          (read_path launch x.creds x.now x.found.path x.found.can_be_named target x.found.is_found
          (some_line launch l (kinds.ForPath ToRead) passes))
      | inr can ↦ (
          let r = ringing launch l can in
          by_path ToRead place target listed _ x.now (ring_behind launch launch.creds x.creds launch.table x.now x.calls x.way r) x.found.path
          x.found.is_found (read_asked launch x.creds x.now x.found.path x.found.can_be_named target x.found.is_found r))
    ]

    shown_write : can_ask launch ToWrite ≡ true → is_dir target.kind ≡ false → Led (fits (mount_wish target.kind ToWrite))
        → IsShown world (asking.Path ToWrite place)
    shown_write asks file x = elim (or_cases (lets launch (kinds.ForPath ToWrite)) (can_submit launch) asks) [
      | inl passes ↦ by_path ToWrite place target listed x.creds x.now x.way x.found.path x.found.is_found
          (write_path launch x.creds x.now x.found.path x.found.can_be_named target x.found.is_found file x.found.is_allowed
          (some_line launch l (kinds.ForPath ToWrite) passes))
      | inr can ↦ (
          let r = ringing launch l can in
          by_path ToWrite place target listed _ x.now (ring_behind launch launch.creds x.creds launch.table x.now x.calls x.way r) x.found.path
          x.found.is_found
          (write_asked launch x.creds x.now x.found.path x.found.can_be_named target x.found.is_found file x.found.is_allowed r))
    ]

    shown_exec : lets launch (kinds.ForPath ToExec) ≡ true → is_exe target.kind ≡ true → is_barred launch target ≡ false → Led (fits ToExec)
        → IsShown world (asking.Path ToExec place)
    shown_exec passes exe free x =
        let admitted : is_refused x.creds (marks_of target) (flags_at x.now x.found.path).no_suid ≡ false =
        not_refused launch l o (flags_at x.now x.found.path).no_suid x.creds target x.basis.bounding free in
        by_path ToExec place target listed x.creds x.now x.way x.found.path x.found.is_found
        (exec_call x.creds x.now x.found.path x.found.can_be_named target x.found.is_found exe x.found.is_allowed admitted
        (some_line launch l (kinds.ForPath ToExec) passes))

    -- a barred row is run where marks are not looked at
    shown_unmarked : lets launch (kinds.ForPath ToExec) ≡ true → is_exe target.kind ≡ true → Led runs_unmarked
        → IsShown world (asking.Path ToExec place)
    shown_unmarked passes exe x =
        let flags = flags_at x.now x.found.path in
        let allowed = and_parts (not flags.no_exec) flags.no_suid x.found.is_allowed in
        let admitted : is_refused x.creds (marks_of target) flags.no_suid ≡ false = ap (λ b. is_refused x.creds (marks_of target) b) allowed.1 in
        by_path ToExec place target listed x.creds x.now x.way x.found.path x.found.is_found
        (exec_call x.creds x.now x.found.path x.found.can_be_named target x.found.is_found exe allowed.0 admitted
        (some_line launch l (kinds.ForPath ToExec) passes))

    -- or in a user namespace of its own, where the bounding set is full
    shown_inside : lets launch (kinds.ForPath ToExec) ≡ true → is_exe target.kind ≡ true → can_make_user launch ≡ true → Led (fits ToExec)
        → IsShown world (asking.Path ToExec place)
    shown_inside passes exe user x =
        let both = and_parts (nat_lt 0 launch.site.user_namespaces) (lets launch (kinds.ForNamespace namespace.User)) user in
        let first = enters launch both.0 x.creds x.now (some_line launch l (kinds.ForNamespace namespace.User) both.1) in
        let m = exec_inside launch x.creds x.now first.pid first.small x.found.path x.found.can_be_named target x.found.is_found exe x.found.is_allowed (known_caps target listed) (some_line launch l (kinds.ForPath ToExec) passes) in
        (_, calls_show_inside launch launch.creds x.creds launch.table x.now world x.calls (asking.Path ToExec place) first.pid _ _ (d.Execve x.found.path) _ s x.way first.makes.fit first.inside m tt (x.found.path, target, refl, listed, x.found.is_found))

    can_parts : (wish : Wish) → can_reach launch (power_of launch) wish target ≡ true
        → (can_ask launch wish ≡ true) × (reaches (power_of launch) launch.table target.path (mount_wish target.kind wish) ≡ true) ×
        ((((is_to_exec wish && is_barred launch target) && not (runs_plainly launch (power_of launch) target)) && not (can_make_user launch)) ≡ false)
    can_parts wish e =
        let both = and_parts (can_ask launch wish && reaches (power_of launch) launch.table target.path (mount_wish target.kind wish)) (not (((is_to_exec wish && is_barred launch target) && not (runs_plainly launch (power_of launch) target)) && not (can_make_user launch))) e in
        let inner = and_parts (can_ask launch wish) (reaches (power_of launch) launch.table target.path (mount_wish target.kind wish)) both.0 in
        (inner.0, inner.1, not-true (((is_to_exec wish && is_barred launch target) && not (runs_plainly launch (power_of launch) target)) && not (can_make_user launch)) both.1)

    pub shown_row : (wish : Wish) → IsFit launch.site (asking.Path wish place) → can_reach launch (power_of launch) wish target ≡ true
        → IsShown world (asking.Path wish place)
    shown_row ToSee fit e = let p = can_parts ToSee e in shown_see p.0 (led (ForWish ToSee) p.1)
    shown_row ToRead fit e = let p = can_parts ToRead e in shown_read p.0 (led (ForWish ToRead) p.1)
    shown_row ToWrite fit e = let p = can_parts ToWrite e in shown_write p.0 (fit target listed) (led (ForWish (mount_wish target.kind ToWrite)) p.1)
    shown_row ToExec fit e = let p = can_parts ToExec e in by (without_ring (lets launch (kinds.ForPath ToExec)) (can_submit launch) p.0) p.1 (is_barred launch target) refl (runs_plainly launch (power_of launch) target) refl (can_make_user launch) refl p.2
      where
        by : lets launch (kinds.ForPath ToExec) ≡ true → reaches (power_of launch) launch.table target.path ToExec ≡ true → (b : Bool)
            → is_barred launch target ≡ b → (plain : Bool) → runs_plainly launch (power_of launch) target ≡ plain
            → (make : Bool) → can_make_user launch ≡ make
            → ((b && not plain) && not make) ≡ false → IsShown world (asking.Path ToExec place)
        by passes r false f plain g make u e = shown_exec passes (fit target listed) f (led (ForWish ToExec) r)
        by passes r true f true g make u e = shown_unmarked passes (fit target listed) (led Unmarked g)
        by passes r true f false g true u e = shown_inside passes (fit target listed) u (led (ForWish ToExec) r)
        by passes r true f false g false u e = cc

  -- ---- what needs a capability, or none
  pub record Having (number : Option ℕ) : Type 0 where
    pub calls : List Call
    pub creds : Creds
    pub now : Table
    pub way : Way launch launch.creds launch.table calls creds now
    pub can : CapAtHand creds number

  having : (number : Option ℕ) → can_have_cap (ceiling launch) number ≡ true → Having number
  having None e = record { calls = []; creds = launch.creds; now = launch.table; way = here; can = tt }
  having (Some number) e = let x = attained launch l o number e in let g = x.1 in record { calls = g.calls; creds = g.creds; now = x.0; way = g.way; can = g.holds }

  by_performed : (question : Question) (p : Operation → Bool) {calls : List Call} (creds : Creds) (now : Table)
      → Way launch launch.creds launch.table calls creds now → {call : Call} → (x : Performed launch creds now p call)
      → Answers launch now question call x.operation → IsShown world question
  by_performed question p {calls = calls} creds now way {call = call} x a = (calls ++ call ∷ [], calls_show launch launch.creds creds launch.table now world calls question x.operation call x.effect s way x.makes x.doable a)

  -- what every process may ask for
  shown_free : (question : Question) (kind : CallKind) → is_free kind launch.creds.mdwe ≡ true
      → ((call : Call) (x : Performed launch launch.creds launch.table (k.asks kind) call)
      → Answers launch launch.table question call x.operation) → lets launch kind ≡ true → IsShown world question
  shown_free question kind h answers e = let x = performing.free launch launch.creds launch.table kind h (some_line launch l kind e) in by_performed question (k.asks kind) launch.creds launch.table here x (answers _ x)

  -- a user namespace itself
  shown_user : can_make_user launch ≡ true → IsShown world (asking.Namespace namespace.User)
  shown_user user =
      let both = and_parts (nat_lt 0 launch.site.user_namespaces) (lets launch (kinds.ForNamespace namespace.User)) user in
      let line = some_line launch l (kinds.ForNamespace namespace.User) both.1 in
      let first = enters launch both.0 launch.creds launch.table line in
      let call = first_by (place_of line.line) line.args (k.space_payload line.own namespace.User) in
      let done = (first.inside world s).0 in
      (call ∷ [], record { fit = (first.makes.fit, tt); done = (done, tt); last = inl (performs launch launch.creds launch.table world s (asks_space namespace.User) first.operation call first.effect first.makes first.such done) })

  -- another one, in a user namespace of its own
  shown_within : (space : NamespaceType) → is_user space ≡ false → lets launch (kinds.ForNamespace space) ≡ true
      → can_make_user launch ≡ true → IsShown world (asking.Namespace space)
  shown_within space u e user =
      let both = and_parts (nat_lt 0 launch.site.user_namespaces) (lets launch (kinds.ForNamespace namespace.User)) user in
      let first = enters launch both.0 launch.creds launch.table (some_line launch l (kinds.ForNamespace namespace.User) both.1) in
      let x = own_space launch launch.creds launch.table first.pid first.small space u (some_line launch l (kinds.ForNamespace space) e) in
      (_, calls_show_inside launch launch.creds launch.creds launch.table launch.table world [] (asking.Namespace space) first.pid _ _ x.operation x.effect s here first.makes.fit first.inside x.makes x.doable x.such)

  shown_space : (space : NamespaceType) → is_user space ≡ false → lets launch (kinds.ForNamespace space) ≡ true
      → has (ceiling launch).effective 21 ≡ true → IsShown world (asking.Namespace space)
  shown_space space u e h =
      let w = having (Some 21) h in
      let x = performing.own_space launch w.creds w.now w.can space u (some_line launch l (kinds.ForNamespace space) e) in
      by_performed (asking.Namespace space) (asks_space space) w.creds w.now w.way x x.such

  shown_call : (place : ℕ) (line : CallLine) → slice_get (every_call launch.calls) place ≡ Some line
      → list_any (λ other. bytes_eq line.name other.name && lets_line launch kinds.PlainCall other) (every_call launch.calls) ≡ true
      → can_have_for (ceiling launch) (rule_of line) ≡ true → IsShown world (asking.Call place)
  shown_call place line listed e h =
      let other = any_at (λ other. bytes_eq line.name other.name && lets_line launch kinds.PlainCall other) (every_call launch.calls) e in
      let such = and_parts (bytes_eq line.name other.1.name) (lets_line launch kinds.PlainCall other.1) other.3 in
      let name : line.name ≡ other.1.name = (bytes_eq-Decides line.name other.1.name).0 such.0 in
      let own = line_at launch l kinds.PlainCall other.0 other.1 other.2 such.1 in
      let there = of_abi launch l other.0 other.1 other.2 in
      let lines = calls_in launch.calls other.1.abi in
      let found : numbered other.1.number lines ≡ Some other.1 = at_position lines other.1.number there.at other.1 (l.calls_once other.1.abi there.at other.1 there.listed) there.listed in
      let r = performing.plain_rule launch launch.creds launch.table own.0 in
      let cap' : can_have_cap (ceiling launch) r.0 ≡ true = ap (can_have_for (ceiling launch)) (sym r.1) ∙ ap (λ (c : CallLine). can_have_for (ceiling launch) (rule_of c)) own.1 ∙ ap (can_have_for (ceiling launch)) (sym (same_rule launch l place other.0 line other.1 listed other.2 name)) ∙ h in
      let w = having r.0 cap' in
      let can = subst (performing.can_for launch w.creds w.now) (sym r.1) w.can in
      let x = performing.plain launch w.creds w.now own.0 can in
      let called : numbered own.0.line.number (calls_in launch.calls own.0.line.abi) ≡ Some other.1 = ap (λ (c : CallLine). numbered c.number (calls_in launch.calls c.abi)) own.1 ∙ found in
      by_performed (asking.Call place) k.asks_plain w.creds w.now w.way x (line, listed, other.1, called, name)

  shown_socket : (place : ℕ) (line : CallLine) → slice_get launch.calls.families place ≡ Some line
      → can_make_socket launch line.number ≡ true → can_have_cap (ceiling launch) line.cap ≡ true
      → IsShown world (asking.Socket place)
  shown_socket place line listed e h =
      let w = having line.cap h in
      let found : numbered line.number launch.calls.families ≡ Some line = at_position launch.calls.families line.number place line (l.families_once place line listed) listed in
      let p : Operation → Bool = asks_family launch.calls.families place in
      let such : p (d.Socket line.number) ≡ true = ap (λ (c : Option CallLine). is_family c line.number) listed ∙ eq-eqb line.number line.number refl in
      let small = low_number launch.calls.families o.calls.families.in_range place line listed in
      elim (or_cases (lets launch (kinds.ForFamily line.number)) (can_submit launch) e) [
        | inl passes ↦ (
            let x = performing.socket launch w.creds w.now line small (some_line launch l (kinds.ForFamily line.number) passes) found w.can p such such (λ is. ap (λ b. b && p (d.Socket line.number)) is ∙ such) in
            by_performed (asking.Socket place) p w.creds w.now w.way x x.such)
        | inr can ↦ (
            let r = ringing launch l can in
            let x = socket_asked launch w.creds w.now line small found w.can p such r in
            by_performed (asking.Socket place) p _ w.now (ring_behind launch launch.creds w.creds launch.table w.now w.calls w.way r) x x.such)
      ]

  -- ---- each question
  listed_is : {X : Type 0} (p : X → Bool) (c : Option X) → if_listed p c ≡ true → (x : X) × (c ≡ Some x) × (p x ≡ true)
  listed_is p None e = cc
  listed_is p (Some x) e = (x, refl, e)

  pub cap_shown : (number : ℕ) (end : Table) → Gained launch l o false launch.creds launch.table end number
      → IsShown world (asking.Cap number)
  cap_shown number end g = (g.calls, creds_show launch launch.creds g.creds launch.table end world g.calls (asking.Cap number) s g.way g.holds)

  other : (space : NamespaceType) → is_user space ≡ false
      → (lets launch (kinds.ForNamespace space) && (has (ceiling launch).effective 21 || can_make_user launch)) ≡ true
      → IsShown world (asking.Namespace space)
  other space u e =
      let both = and_parts (lets launch (kinds.ForNamespace space)) (has (ceiling launch).effective 21 || can_make_user launch) e in
      elim (or_cases (has (ceiling launch).effective 21) (can_make_user launch) both.1) [
        | inl admin ↦ shown_space space u both.0 admin
        | inr user ↦ shown_within space u both.0 user
      ]

  shown_ns : (space : NamespaceType) → is_open launch (asking.Namespace space) ≡ true → IsShown world (asking.Namespace space)
  shown_ns namespace.User e = shown_user e
  shown_ns namespace.Cgroup e = other namespace.Cgroup refl e
  shown_ns namespace.Ipc e = other namespace.Ipc refl e
  shown_ns namespace.Net e = other namespace.Net refl e
  shown_ns namespace.Mnt e = other namespace.Mnt refl e
  shown_ns namespace.Pid e = other namespace.Pid refl e
  shown_ns namespace.Uts e = other namespace.Uts refl e

  -- memory that is only read is attached where the mark refuses other memory
  shown_attached : is_open launch asking.ShmX ≡ true → IsShown world asking.ShmX
  shown_attached e = by launch.creds.mdwe refl e
    where
      by : (m : Bool) → launch.creds.mdwe ≡ m → lets launch (cond m kinds.AttachesReadOnlyX kinds.AttachesX) ≡ true
          → IsShown world asking.ShmX
      by true on h = shown_free asking.ShmX kinds.AttachesReadOnlyX refl (λ call x. read_attaches x.operation x.such) h
      by false off h = shown_free asking.ShmX kinds.AttachesX (ap not off) (λ call x. x.such) h

  -- by sched_setattr(2) and the capability, where sched_setscheduler(2) does not pass
  shown_attributes : lets launch kinds.SetsRealtime ≡ true → can_have_cap (ceiling launch) (Some 23) ≡ true → IsShown world asking.Realtime
  shown_attributes e h =
      let w = having (Some 23) h in
      let x = performing.attributes launch w.creds w.now (some_line launch l kinds.SetsRealtime e) w.can in
      by_performed asking.Realtime k.asks_attributes w.creds w.now w.way x (sets_realtime x.operation x.such)

  shown_realtime : is_open launch asking.Realtime ≡ true → IsShown world asking.Realtime
  shown_realtime e =
      elim (or_cases (lets launch kinds.SchedulesRealtime) (lets launch kinds.SetsRealtime && can_have_cap (ceiling launch) (Some 23)) e) [
        | inl one ↦ shown_free asking.Realtime kinds.SchedulesRealtime refl (λ call x. schedules x.operation x.such) one
        | inr other' ↦ (let both = and_parts (lets launch kinds.SetsRealtime) (can_have_cap (ceiling launch) (Some 23)) other' in shown_attributes both.0 both.1)
      ]

  -- by open(2) of a file that is made, at the path of the program
  shown_made : lets launch kinds.OpensMode ≡ true → IsShown world asking.SuidBit
  shown_made e =
      let p = o.program.found in
      let x = performing.makes_mode launch launch.creds launch.table p.path p.can_be_named o.program.program p.is_found (some_line launch l kinds.OpensMode e) in
      by_performed asking.SuidBit k.asks_made_mode launch.creds launch.table here x (makes_bit x.operation x.such)

  -- by a request to a ring
  shown_requested : can_submit launch ≡ true → IsShown world asking.SuidBit
  shown_requested e =
      let r = ringing launch l e in
      let x = mode_asked launch launch.creds launch.table r in
      by_performed asking.SuidBit asks_mode _ launch.table (ring_behind launch launch.creds launch.creds launch.table launch.table [] here r)
      x x.such

  -- by creat(2) of a file that can be written
  shown_created : can_create launch (power_of launch) ≡ true → IsShown world asking.SuidBit
  shown_created e =
      let both = and_parts (lets launch kinds.CreatesMode) (list_any (can_write launch (power_of launch)) launch.site.rows) e in
      let some = any_at (can_write launch (power_of launch)) launch.site.rows both.1 in
      let target : Row = some.1 in
      let can = and_parts (not (is_dir target.kind)) (reaches (power_of launch) launch.table target.path (mount_wish target.kind ToWrite)) some.3 in
      let x = led some.0 target some.2 (ForWish (mount_wish target.kind ToWrite)) can.1 in
      let c = creates_mode launch x.creds x.now x.found.path x.found.can_be_named target x.found.is_found (not-true (is_dir target.kind) can.0) x.found.is_allowed (some_line launch l kinds.CreatesMode both.0) in
      by_performed asking.SuidBit k.asks_created_mode x.creds x.now x.way c (created_bit c.operation c.such)

  shown_suid : is_open launch asking.SuidBit ≡ true → IsShown world asking.SuidBit
  shown_suid e =
      let calls = lets launch kinds.SetsMode || lets launch kinds.OpensMode in
      elim (or_cases (calls || can_submit launch) (can_create launch (power_of launch)) e) [
        | inl sooner ↦ elim (or_cases calls (can_submit launch) sooner) [
          | inl some ↦ elim (or_cases (lets launch kinds.SetsMode) (lets launch kinds.OpensMode) some) [
            | inl sets ↦ shown_free asking.SuidBit kinds.SetsMode refl (λ call x. sets_mode x.operation x.such) sets
            | inr makes ↦ shown_made makes
          ]
          | inr can ↦ shown_requested can
        ]
        | inr creates ↦ shown_created creates
      ]

  pub shown : (question : Question) → IsFit launch.site question → is_open launch question ≡ true → IsShown world question
  shown (asking.Path wish place) fit e = let x = listed_is (can_reach launch (power_of launch) wish) (slice_get launch.site.rows place) e in shown_row place x.0 x.1 wish fit x.2
  shown (asking.Call place) fit e =
      let x = listed_is (is_call_open launch (ceiling launch)) (slice_get (every_call launch.calls) place) e in
      let both = and_parts (list_any (λ other. bytes_eq x.0.name other.name && lets_line launch kinds.PlainCall other) (every_call launch.calls)) (can_have_for (ceiling launch) (rule_of x.0)) x.2 in
      shown_call place x.0 x.1 both.0 both.1
  shown (asking.Socket place) fit e =
      let x = listed_is (λ line. can_make_socket launch line.number && can_have_cap (ceiling launch) line.cap) (slice_get launch.calls.families place) e in
      let both = and_parts (can_make_socket launch x.0.number) (can_have_cap (ceiling launch) x.0.cap) x.2 in
      shown_socket place x.0 x.1 both.0 both.1
  shown (asking.Namespace space) fit e = shown_ns space e
  shown asking.MapWx fit e =
      let both = and_parts (not launch.creds.mdwe) (lets launch kinds.MapsWx) e in
      shown_free asking.MapWx kinds.MapsWx both.0 (λ call x. x.such) both.1
  shown asking.ProtectX fit e = shown_free asking.ProtectX kinds.ProtectsX refl (λ call x. x.such) e
  shown asking.ShmX fit e = shown_attached e
  shown asking.Realtime fit e = shown_realtime e
  shown asking.Personality fit e = shown_free asking.Personality kinds.TakesPersonality refl (λ call x. x.such) e
  shown asking.SuidBit fit e = shown_suid e
  shown (asking.Cap number) fit e = let x = attained launch l o number e in cap_shown number x.0 x.1
  shown (asking.Uid id) fit e = let t = uid_taken launch l o id fit e in (t.calls, creds_show launch launch.creds t.creds launch.table t.now world t.calls (asking.Uid id) s t.way t.has)
  shown (asking.Gid id) fit e = let t = gid_taken launch l o id fit e in (t.calls, creds_show launch launch.creds t.creds launch.table t.now world t.calls (asking.Gid id) s t.way t.has)

pub solo_of : (world : World) → IsServedWorld world → IsSolo (launch_of world) (launch_of world).creds (launch_of world).table world
solo_of world s = starts_solo world s.launched s.few

pub open_is_shown : OpenIsShown
open_is_shown world question s fit e = shown world (launch_of world) s.launched.launched s.offers (solo_of world s) question fit e
