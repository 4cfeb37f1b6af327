-- The calls that are chosen for an open question show it.
use Rattle.std.proofs.Common.{◌≡◌, ℕ, Bool, true, false, List, [], ◌∷◌, ◌++◌, Option, Some, None, refl, ap, ◌∙◌, sym, subst, cond, inl, inr, append_assoc}
use Rattle.std.specs.Prelude.{slice_get, nat_lt, not, ◌&&◌, ◌||◌, unwrap_or}
use Rattle.std.specs.List.{list_any}
use Rattle.std.specs.Option.{option_map_or}
use Rattle.std.specs.Str.{bytes_eq}
use Rattle.std.proofs.lemmas.Slice.Eq.{bytes_eq-Decides}
use Rattle.std.proofs.lemmas.Bool.{and_parts, eq-eqb, not-true}
use Rattle.ceilings.specs.abs_path.Paths.{Path}
use Rattle.ceilings.specs.cap_sets.Sets.{has}
use Rattle.ceilings.specs.call_table.declared.listed.CallLine.{CallLine}
use Rattle.ceilings.specs.call_table.Lookups.{numbered}
use Rattle.ceilings.specs.call_table.Table.{calls_in, every_call}
use Rattle.ceilings.specs.kern_creds.declared.creds.Creds.{Creds}
use Rattle.ceilings.specs.kern_mounts.Split.{Table}
use Rattle.ceilings.specs.kernel_model.kernel_calls.Operation as d
use Rattle.ceilings.specs.kernel_model.kernel_calls.Operation.{Operation}
use Rattle.ceilings.specs.kernel_model.kernel_calls.Rules.{rule_of}
use Rattle.ceilings.specs.kernel_model.declared.kernel_calls.call.Call.{Call}
use Rattle.ceilings.specs.kernel_model.declared.kernel_calls.payload.Payload.TheVariants.{Nothing, OnePath}
use Rattle.ceilings.specs.kernel_model.declared.kernel_calls.rule.Rule.{Rule}
use Rattle.ceilings.specs.kernel_model.World.{World}
use Rattle.ceilings.specs.kernel_laws.Bound.{is_user, can_reach, can_have_cap, can_have_for, if_listed, power_of, ceiling, is_open}
use Rattle.ceilings.specs.kernel_laws.Bound.{attaching, can_create, can_make_socket, can_write, is_call_open}
use Rattle.ceilings.specs.kernel_laws.Denied.{asks_space, asks_family, is_family, Shows}
use Rattle.ceilings.specs.kernel_laws.Kinds as k
use Rattle.ceilings.specs.kernel_laws.declared.question_types.kind.CallKind.{CallKind}
use Rattle.questions.specs.linux_numbers.declared.namespaces.NamespaceType.{NamespaceType}
use Rattle.ceilings.specs.kernel_laws.declared.question_types.question.Question.{Question}
use Rattle.ceilings.specs.kernel_laws.declared.question_types.kind.CallKind.TheVariants as kinds
use Rattle.questions.specs.linux_numbers.declared.namespaces.NamespaceType.TheVariants as namespace
use Rattle.ceilings.specs.kernel_laws.declared.question_types.question.Question.TheVariants as asking
use Rattle.ceilings.specs.kernel_laws.Launched.{Launch, IsLaunched, launch_of, lets, lets_line, can_make_user, can_submit}
use Rattle.ceilings.specs.kernel_laws.PlainCalls.{bare_call}
use Rattle.ceilings.proofs.OfKernelLaws.Filters.{at_position}
use Rattle.ceilings.specs.kernel_ways.Laws.{IsFit}
use Rattle.ceilings.specs.kernel_ways.Offers.{Offers, RunsProgram}
use Rattle.ceilings.specs.kernel_ways.Showing.{Answers}
use Rattle.ceilings.specs.kernel_ways.Ways.{Way, here, IsSolo, place_of}
use Rattle.ceilings.proofs.OfKernelWays.Choices as choices
use Rattle.ceilings.proofs.OfKernelWays.Operations.{Performed, creates_mode}
use Rattle.ceilings.proofs.OfKernelWays.ByRing.{mode_asked, socket_asked}
use Rattle.ceilings.proofs.OfKernelWays.Exposing.{HasPower}
use Rattle.ceilings.proofs.OfKernelWays.Rows.{known_at}
use Rattle.ceilings.proofs.OfKernelWays.Solo.{way_join}
use Rattle.ceilings.specs.kernel_laws.Reach.{mount_wish, reaches}
use Rattle.ceilings.specs.kernel_laws.declared.question_types.power.Power.{Power}
use Rattle.ceilings.specs.kernel_laws.declared.question_types.power.Power.TheVariants.{None as Nowise}
use Rattle.ceilings.specs.kernel_laws.declared.question_types.wish.Wish.TheVariants.{Write as ToWrite}
use Rattle.ceilings.specs.kernel_model.declared.kernel_calls.request.Request.TheVariants as ask
use Rattle.ceilings.specs.kernel_model.kern_files.MountCall.{ms_remount_bind}
use Rattle.ceilings.specs.site_table.Kinds.{is_dir}
use Rattle.ceilings.specs.site_table.declared.row.Row.{Row}
use Rattle.ceilings.proofs.OfKernelWays.Lines.{choice_of, first_by, low_number, line_at, of_abi, same_rule}
use Rattle.ceilings.proofs.OfKernelWays.Performing as performing
use Rattle.ceilings.proofs.OfKernelWays.Performing.{CapAtHand, created_bit, is_free, makes_bit, read_attaches, schedules, sets_mode, sets_realtime}
use Rattle.ceilings.proofs.OfKernelWays.Showing.{calls_show, creds_show}
use Rattle.ceilings.proofs.OfKernelWays.Starts.{starts_solo, performs}
use Rattle.open_calls.specs.chosen_calls.Chosen.{own_payload, plain_cap, suid_calls, realtime_calls, row_calls, plain_calls, socket_calls, space_calls, user_call, pid_inside}
use Rattle.open_calls.specs.chosen_calls.Chosen.{call_inside, calls_for, is_called, plain_line, socket_payload}
use Rattle.open_calls.specs.chosen_calls.Chosen.{allowing, created_by, created_calls, created_later, creating_calls, submit_calls, writable}
use Rattle.open_calls.specs.chosen_calls.Exposing.{exposing_calls, exposing_path}
use Rattle.open_calls.specs.chosen_calls.First.{call_by, no_line}
use Rattle.open_calls.proofs.ChosenCallsInside.{user_called, inside_is}
use Rattle.ceilings.proofs.OfKernelWays.Entering.{calls_show_inside}
use Rattle.ceilings.proofs.OfKernelWays.InUser.{enters, Inside, own_space, call_by as made_by}
use Rattle.open_calls.specs.chosen_calls.Gaining.{gaining, gaining_if}
use Rattle.open_calls.specs.chosen_calls.Laws.{ChoiceShows}
use Rattle.open_calls.proofs.FirstLines.{chosen, call_is, rule_is}
use Rattle.open_calls.proofs.ChosenCallsIds.{uid_shown, gid_shown}
use Rattle.open_calls.proofs.Lists.{any_found, found_at}
use Rattle.open_calls.proofs.ChosenCallsRing.{chosen_ring, ring_shown}
use Rattle.open_calls.proofs.ChosenCallsRows.{admin_gained, gained, row_shown}
use Rattle.open_calls.proofs.Exposed.{exposed_for}
use Rattle.open_calls.proofs.Opening.{is_writable}

module _ (world : World) (launch : Launch) (l : IsLaunched launch) (o : Offers launch) (s : IsSolo launch launch.creds launch.table world) (program : Path) (p : RunsProgram launch program) where
  -- a call behind a way
  by_performed : (question : Question) (asks : Operation → Bool) {front : List Call} (creds : Creds) (now : Table)
      → Way launch launch.creds launch.table front creds now → {call : Call} → (x : Performed launch creds now asks call)
      → Answers launch now question call x.operation → Shows world question (front ++ call ∷ [])
  by_performed question asks {front = front} creds now way {call = call} x a =
      calls_show launch launch.creds creds launch.table now world front question x.operation call x.effect s way x.makes x.doable a

  -- the first call of a kind that every process may ask for
  shown_free : (question : Question) (kind : CallKind) → is_free kind launch.creds.mdwe ≡ true → lets launch kind ≡ true
      → ((call : Call) (x : Performed launch launch.creds launch.table (k.asks kind) call)
      → Answers launch launch.table question call x.operation)
      → Shows world question (call_by launch kind Nothing ∷ [])
  shown_free question kind h e answers =
      let c = chosen launch l kind e in
      let P : Call → Type 0 = λ call. Performed launch launch.creds launch.table (k.asks kind) call in
      let x = subst P (sym (call_is c Nothing)) (performing.free launch launch.creds launch.table kind h c.line) in
      by_performed question (k.asks kind) launch.creds launch.table here x (answers (call_by launch kind Nothing) x)

  -- a way to credentials that have the capability, if one is asked for
  record Having (number : Option ℕ) : Type 0 where
    creds : Creds
    now : Table
    way : Way launch launch.creds launch.table (gaining_if launch program number) creds now
    can : CapAtHand creds number

  having : (number : Option ℕ) → can_have_cap (ceiling launch) number ≡ true → Having number
  having None e = record { creds = launch.creds; now = launch.table; way = here; can = tt }
  having (Some number) e = let g = gained launch l o program p number e in record { creds = g.creds; now = g.now; way = g.way; can = g.holds }

  shown_space : (space : NamespaceType) → is_user space ≡ false → lets launch (kinds.ForNamespace space) ≡ true
      → has (ceiling launch).effective 21 ≡ true → Shows world (asking.Namespace space)
      (gaining launch program 21 ++ call_by launch (kinds.ForNamespace space) (own_payload launch space) ∷ [])
  shown_space space u e h =
      let g = gained launch l o program p 21 h in
      let c = chosen launch l (kinds.ForNamespace space) e in
      let P : Call → Type 0 = λ call. Performed launch g.creds g.now (asks_space space) call in
      let same = call_is c (own_payload launch space) ∙ ap (λ own. first_by (place_of c.line.line) c.line.args (k.space_payload own space)) (rule_is c) in
      let x = subst P (sym same) (performing.own_space launch g.creds g.now g.holds space u c.line) in
      by_performed (asking.Namespace space) (asks_space space) g.creds g.now g.way x x.such

  -- a user namespace by itself
  shown_user : can_make_user launch ≡ true → Shows world (asking.Namespace namespace.User) (user_call launch ∷ [])
  shown_user user =
      let both = and_parts (nat_lt 0 launch.site.user_namespaces) (lets launch (kinds.ForNamespace namespace.User)) user in
      let c = chosen launch l (kinds.ForNamespace namespace.User) both.1 in
      let first = enters launch both.0 launch.creds launch.table c.line in
      let call = first_by (place_of c.line.line) c.line.args (k.space_payload c.line.own namespace.User) in
      let same : user_call launch ≡ call = call_is c (own_payload launch namespace.User) ∙ ap (λ own. first_by (place_of c.line.line) c.line.args (k.space_payload own namespace.User)) (rule_is c) in
      let done = (first.inside world s).0 in
      let P : Call → Type 0 = λ own. Shows world (asking.Namespace namespace.User) (own ∷ []) in
      subst P (sym same) (record { fit = (first.makes.fit, tt); done = (done, tt); last = inl (performs launch launch.creds launch.table world s (asks_space namespace.User) first.operation call first.effect first.makes first.such done) })

  -- another one in it
  shown_within : (space : NamespaceType) → is_user space ≡ false → lets launch (kinds.ForNamespace space) ≡ true
      → can_make_user launch ≡ true → Shows world (asking.Namespace space)
      (user_call launch ∷ call_inside launch (kinds.ForNamespace space) (own_payload launch space) ∷ [])
  shown_within space u e user =
      let v = user_called launch l user launch.creds launch.table in
      let c = chosen launch l (kinds.ForNamespace space) e in
      let P : Call → Type 0 = λ call. Inside launch launch.creds launch.table (pid_inside launch) v.small (asks_space space) call in
      let same = inside_is launch c (own_payload launch space) ∙ ap (λ own. made_by (pid_inside launch) (place_of c.line.line) c.line.args (k.space_payload own space)) (rule_is c) in
      let x = subst P (sym same) (own_space launch launch.creds launch.table (pid_inside launch) v.small space u c.line) in
      calls_show_inside launch launch.creds launch.creds launch.table launch.table world [] (asking.Namespace space) (pid_inside launch)
      (user_call launch) (call_inside launch (kinds.ForNamespace space) (own_payload launch space)) x.operation x.effect s here v.fit v.inside x.makes
      x.doable x.such

  other_space : (space : NamespaceType) → is_user space ≡ false
      → (lets launch (kinds.ForNamespace space) && (has (ceiling launch).effective 21 || can_make_user launch)) ≡ true
      → Shows world (asking.Namespace space)
      (cond (has (ceiling launch).effective 21) (gaining launch program 21 ++ call_by launch (kinds.ForNamespace space) (own_payload launch space) ∷ [])
      (user_call launch ∷ call_inside launch (kinds.ForNamespace space) (own_payload launch space) ∷ []))
  other_space space u e =
      let both = and_parts (lets launch (kinds.ForNamespace space)) (has (ceiling launch).effective 21 || can_make_user launch) e in
      by (has (ceiling launch).effective 21) refl both.0 both.1
    where
      by : (b : Bool) → has (ceiling launch).effective 21 ≡ b → lets launch (kinds.ForNamespace space) ≡ true
          → (b || can_make_user launch) ≡ true
          → Shows world (asking.Namespace space)
          (cond b (gaining launch program 21 ++ call_by launch (kinds.ForNamespace space) (own_payload launch space) ∷ [])
          (user_call launch ∷ call_inside launch (kinds.ForNamespace space) (own_payload launch space) ∷ []))
      by true h let' more = shown_space space u let' h
      by false h let' more = shown_within space u let' more

  shown_ns : (space : NamespaceType) → is_open launch (asking.Namespace space) ≡ true
      → Shows world (asking.Namespace space) (space_calls launch program space)
  shown_ns namespace.User e = shown_user e
  shown_ns namespace.Cgroup e = other_space namespace.Cgroup refl e
  shown_ns namespace.Ipc e = other_space namespace.Ipc refl e
  shown_ns namespace.Net e = other_space namespace.Net refl e
  shown_ns namespace.Mnt e = other_space namespace.Mnt refl e
  shown_ns namespace.Pid e = other_space namespace.Pid refl e
  shown_ns namespace.Uts e = other_space namespace.Uts refl e

  -- the line whose call is made is one of the name that passes
  record CalledLine (name : List ℕ) : Type 0 where
    at : ℕ
    line : CallLine
    listed : slice_get (every_call launch.calls) at ≡ Some line
    is : plain_line launch name ≡ line
    same : name ≡ line.name
    lets' : lets_line launch kinds.PlainCall line ≡ true

  called_line : (name : List ℕ) → list_any (is_called launch name) (every_call launch.calls) ≡ true → CalledLine name
  unfolding plain_line
  called_line name e =
      let a = any_found (is_called launch name) (every_call launch.calls) e in
      let f = found_at (is_called launch name) (every_call launch.calls) a.0 a.1 in
      let such = and_parts (bytes_eq name a.0.name) (lets_line launch kinds.PlainCall a.0) f.2 in
      record { at = f.0; line = a.0; listed = f.1; is = ap (λ o. unwrap_or o no_line) a.1; same = (bytes_eq-Decides name a.0.name).0 such.0; lets' = such.1 }

  bare_by : {own : Rule} {args : List ℕ} → choices.Choice kinds.PlainCall own args → args ≡ k.no_words
  bare_by (choices.plain number) = refl

  shown_call : (place : ℕ) (line : CallLine) → slice_get (every_call launch.calls) place ≡ Some line
      → list_any (is_called launch line.name) (every_call launch.calls) ≡ true → can_have_for (ceiling launch) (rule_of line) ≡ true
      → Shows world (asking.Call place) (plain_calls launch program line)
  shown_call place line listed e h =
      let called = called_line line.name e in
      let other = called.line in
      let own = line_at launch l kinds.PlainCall called.at other called.listed called.lets' in
      let there = of_abi launch l called.at other called.listed in
      let lines = calls_in launch.calls other.abi in
      let found : numbered other.number lines ≡ Some other = at_position lines other.number there.at other (l.calls_once other.abi there.at other there.listed) there.listed in
      let rule : rule_of line ≡ rule_of other = same_rule launch l place called.at line other listed called.listed called.same in
      let r = performing.plain_rule launch launch.creds launch.table own.0 in
      let own_rule' : rule_of own.0.line ≡ rule_of line = ap rule_of own.1 ∙ sym rule in
      let cap' : can_have_cap (ceiling launch) r.0 ≡ true = ap (can_have_for (ceiling launch)) (sym r.1 ∙ own_rule') ∙ h in
      let same : plain_cap (rule_of line) ≡ r.0 = ap plain_cap (sym own_rule' ∙ r.1) in
      let w = having r.0 cap' in
      let can = subst (performing.can_for launch w.creds w.now) (sym r.1) w.can in
      let x = performing.plain launch w.creds w.now own.0 can in
      let reached : numbered own.0.line.number (calls_in launch.calls own.0.line.abi) ≡ Some other = ap (λ (c : CallLine). numbered c.number (calls_in launch.calls c.abi)) own.1 ∙ found in
      let shown = by_performed (asking.Call place) k.asks_plain w.creds w.now w.way x (line, listed, other, reached, called.same) in
      let call_is' : first_by (place_of own.0.line) own.0.args Nothing ≡ bare_call (plain_line launch line.name).abi (plain_line launch line.name).number =
      ap (λ (c : CallLine). first_by (place_of c) own.0.args Nothing) (own.1 ∙ sym called.is) ∙ ap (λ words. first_by (place_of (plain_line launch line.name)) words Nothing) (bare_by (choice_of own.0)) in
      let P : List Call → Type 0 = λ calls. Shows world (asking.Call place) calls in
      let end = bare_call (plain_line launch line.name).abi (plain_line launch line.name).number in
      subst P (ap (λ call. gaining_if launch program r.0 ++ call ∷ []) call_is'
      ∙ ap (λ number. gaining_if launch program number ++ end ∷ []) (sym same)) shown

  -- by one list of calls if it passes, else by the other
  either_way : (passes can : Bool) (question : Question) (front one other : List Call) → (passes ≡ true → Shows world question (front ++ one))
      → (can ≡ true → Shows world question (front ++ other)) → (passes || can) ≡ true
      → Shows world question (front ++ cond passes one other)
  either_way true can question front one other shown more e = shown refl
  either_way false can question front one other shown more e = more e

  shown_socket : (place : ℕ) (line : CallLine) → slice_get launch.calls.families place ≡ Some line
      → can_make_socket launch line.number ≡ true → can_have_cap (ceiling launch) line.cap ≡ true
      → Shows world (asking.Socket place) (socket_calls launch program line)
  shown_socket place line listed e h =
      let w = having line.cap h in
      let found : numbered line.number launch.calls.families ≡ Some line = at_position launch.calls.families line.number place line (l.families_once place line listed) listed in
      let asks : Operation → Bool = asks_family launch.calls.families place in
      let such : asks (d.Socket line.number) ≡ true = ap (λ (c : Option CallLine). is_family c line.number) listed ∙ eq-eqb line.number line.number refl in
      let small = low_number launch.calls.families o.calls.families.in_range place line listed in
      let by_call : lets launch (kinds.ForFamily line.number) ≡ true → Shows world (asking.Socket place) (gaining_if launch program line.cap ++ call_by launch (kinds.ForFamily line.number) (socket_payload launch line.number) ∷ []) = λ passes.
      (let c = chosen launch l (kinds.ForFamily line.number) passes in
      let payload : socket_payload launch line.number ≡ k.family_payload c.line.own line.number = ap (λ own. k.family_payload own line.number) (rule_is c) in
      let P : Call → Type 0 = λ call. Performed launch w.creds w.now asks call in
      let same = call_is c (socket_payload launch line.number) ∙ ap (first_by (place_of c.line.line) c.line.args) payload in
      let x = subst P (sym same) (performing.socket launch w.creds w.now line small c.line found w.can asks such such (λ is. ap (λ b. b && asks (d.Socket line.number)) is ∙ such)) in
      by_performed (asking.Socket place) asks w.creds w.now w.way x x.such) in
      let by_ring : can_submit launch ≡ true → Shows world (asking.Socket place) (gaining_if launch program line.cap ++ submit_calls launch (ask.Socket line.number)) = λ can.
      (let c = chosen_ring launch l can in
      let x = socket_asked launch w.creds w.now line small found w.can asks such c.ring in
      ring_shown world launch s c (asking.Socket place) (gaining_if launch program line.cap) w.creds w.now w.way (ask.Socket line.number) x.operation x.effect x.makes x.doable x.such) in
      either_way (lets launch (kinds.ForFamily line.number)) (can_submit launch) (asking.Socket place) (gaining_if launch program line.cap)
      (call_by launch (kinds.ForFamily line.number) (socket_payload launch line.number) ∷ []) (submit_calls launch (ask.Socket line.number))
      by_call by_ring e

  -- ---- each question
  listed_is : {X : Type 0} (holds : X → Bool) (c : Option X) → if_listed holds c ≡ true → (x : X) × (c ≡ Some x) × (holds x ≡ true)
  listed_is holds None e = cc
  listed_is holds (Some x) e = (x, refl, e)

  -- of a listed thing
  of_listed : {X : Type 0} (question : Question) (calls : X → List Call) (listed : Option X) (x : X) → listed ≡ Some x
      → Shows world question (calls x) → Shows world question (option_map_or calls listed [])
  of_listed question calls listed x e h = let P : List Call → Type 0 = λ list. Shows world question list in subst P (sym (ap (λ o. option_map_or calls o []) e)) h

  -- memory that is only read is attached where the mark refuses other memory
  shown_attached : is_open launch asking.ShmX ≡ true → Shows world asking.ShmX (call_by launch (attaching launch) Nothing ∷ [])
  shown_attached e = by launch.creds.mdwe refl e
    where
      by : (m : Bool) → launch.creds.mdwe ≡ m → lets launch (cond m kinds.AttachesReadOnlyX kinds.AttachesX) ≡ true
          → Shows world asking.ShmX (call_by launch (cond m kinds.AttachesReadOnlyX kinds.AttachesX) Nothing ∷ [])
      by true on h = shown_free asking.ShmX kinds.AttachesReadOnlyX refl h (λ call x. read_attaches x.operation x.such)
      by false off h = shown_free asking.ShmX kinds.AttachesX (ap not off) h (λ call x. x.such)

  -- by sched_setattr(2) and the capability, where sched_setscheduler(2) does not pass
  shown_attributes : lets launch kinds.SetsRealtime ≡ true → can_have_cap (ceiling launch) (Some 23) ≡ true
      → Shows world asking.Realtime (gaining_if launch program (Some 23) ++ call_by launch kinds.SetsRealtime k.realtime_payload ∷ [])
  shown_attributes e h =
      let w = having (Some 23) h in
      let c = chosen launch l kinds.SetsRealtime e in
      let P : Call → Type 0 = λ call. Performed launch w.creds w.now k.asks_attributes call in
      let x = subst P (sym (call_is c k.realtime_payload)) (performing.attributes launch w.creds w.now c.line w.can) in
      by_performed asking.Realtime k.asks_attributes w.creds w.now w.way x (sets_realtime x.operation x.such)

  shown_realtime : is_open launch asking.Realtime ≡ true → Shows world asking.Realtime (realtime_calls launch program)
  shown_realtime e = by (lets launch kinds.SchedulesRealtime) refl e
    where
      by : (b : Bool) → lets launch kinds.SchedulesRealtime ≡ b
          → (b || (lets launch kinds.SetsRealtime && can_have_cap (ceiling launch) (Some 23))) ≡ true
          → Shows world asking.Realtime (cond b (call_by launch kinds.SchedulesRealtime Nothing ∷ [])
          (gaining_if launch program (Some 23) ++ call_by launch kinds.SetsRealtime k.realtime_payload ∷ []))
      by true on h = shown_free asking.Realtime kinds.SchedulesRealtime refl on (λ call x. schedules x.operation x.such)
      by false off h = let both = and_parts (lets launch kinds.SetsRealtime) (can_have_cap (ceiling launch) (Some 23)) h in shown_attributes both.0 both.1

  -- by open(2) of a file that is made, at the path of the program
  shown_made : lets launch kinds.OpensMode ≡ true → Shows world asking.SuidBit (call_by launch kinds.OpensMode (OnePath program) ∷ [])
  shown_made e =
      let c = chosen launch l kinds.OpensMode e in
      let found = p.0.found in
      let own : Performed launch launch.creds launch.table k.asks_made_mode (first_by (place_of c.line.line) c.line.args (OnePath found.path)) = performing.makes_mode launch launch.creds launch.table found.path found.can_be_named p.0.program found.is_found c.line in
      let P : Path → Type 0 = λ path. Performed launch launch.creds launch.table k.asks_made_mode (first_by (place_of c.line.line) c.line.args (OnePath path)) in
      let Q : Call → Type 0 = λ call. Performed launch launch.creds launch.table k.asks_made_mode call in
      let x = subst Q (sym (call_is c (OnePath program))) (subst P p.1 own) in
      by_performed asking.SuidBit k.asks_made_mode launch.creds launch.table here x (makes_bit x.operation x.such)

  -- by a request to a ring
  shown_requested : can_submit launch ≡ true → Shows world asking.SuidBit (submit_calls launch k.mode_request)
  shown_requested e =
      let c = chosen_ring launch l e in
      let x = mode_asked launch launch.creds launch.table c.ring in
      ring_shown world launch s c asking.SuidBit [] launch.creds launch.table here k.mode_request x.operation x.effect x.makes x.doable x.such

  -- by creat(2) of a row that can be written
  created_behind : lets launch kinds.CreatesMode ≡ true → {front : List Call} (creds : Creds)
      → Way launch launch.creds launch.table front creds launch.table → (power : Power) → HasPower launch creds power
      → (row : Row) → writable launch power ≡ Some row → Shows world asking.SuidBit (front ++ creating_calls launch power row)
  created_behind passes {front = front} creds way power h row e =
      let found = is_writable launch o power row e in
      let f = found_at (can_write launch power) launch.site.rows row e in
      let can = and_parts (not (is_dir row.kind)) (reaches power launch.table row.path (mount_wish row.kind ToWrite)) found.1 in
      let x = exposed_for launch l o creds row (known_at launch.site o.site f.0 row f.1) (mount_wish row.kind ToWrite) power h can.1 in
      let path = exposing_path launch power (allowing ToWrite row) row.path in
      let calls = exposing_calls launch power ms_remount_bind (allowing ToWrite row) row.path in
      let c = chosen launch l kinds.CreatesMode passes in
      let P : Call → Type 0 = λ call. Performed launch creds x.now k.asks_created_mode call in
      let own = subst P (sym (call_is c (OnePath path))) (creates_mode launch creds x.now path x.found.can_be_named row x.found.is_found (not-true (is_dir row.kind) can.0) x.found.is_allowed c.line) in
      let shown = by_performed asking.SuidBit k.asks_created_mode creds x.now (way_join way x.way) own (created_bit own.operation own.such) in
      subst (Shows world asking.SuidBit) (append_assoc front calls (call_by launch kinds.CreatesMode (OnePath path) ∷ [])) shown

  -- on the launched table, else on what CAP_SYS_ADMIN makes of it
  shown_created : can_create launch (power_of launch) ≡ true → Shows world asking.SuidBit (created_calls launch program)
  shown_created e = by (writable launch Nowise) refl
    where
      both : (lets launch kinds.CreatesMode ≡ true) × (list_any (can_write launch (power_of launch)) launch.site.rows ≡ true)
      both = and_parts (lets launch kinds.CreatesMode) (list_any (can_write launch (power_of launch)) launch.site.rows) e

      later : writable launch Nowise ≡ None → (o' : Option Row) → writable launch (power_of launch) ≡ o'
          → Shows world asking.SuidBit (created_later launch program o')
      later none' (Some row) is =
          let a = admin_gained launch l o program p (λ nowise. let same : Some row ≡ None = sym is ∙ ap (writable launch) nowise ∙ none' in cc) in
          created_behind both.0 a.creds a.way (power_of launch) (inr (a.holds, refl)) row is
      later none' None is = let found = any_found (can_write launch (power_of launch)) launch.site.rows both.1 in cc

      by : (o' : Option Row) → writable launch Nowise ≡ o' → Shows world asking.SuidBit (created_by launch program o')
      by (Some row) is = created_behind both.0 launch.creds here Nowise (inl refl) row is
      by None is = later is (writable launch (power_of launch)) refl

  shown_suid : is_open launch asking.SuidBit ≡ true → Shows world asking.SuidBit (suid_calls launch program)
  shown_suid e = by (lets launch kinds.SetsMode) refl (lets launch kinds.OpensMode) refl (can_submit launch) refl e
    where
      by : (b : Bool) → lets launch kinds.SetsMode ≡ b → (c : Bool) → lets launch kinds.OpensMode ≡ c → (r : Bool) → can_submit launch ≡ r
          → (((b || c) || r) || can_create launch (power_of launch)) ≡ true
          → Shows world asking.SuidBit (cond b (call_by launch kinds.SetsMode Nothing ∷ [])
          (cond c (call_by launch kinds.OpensMode (OnePath program) ∷ [])
          (cond r (submit_calls launch k.mode_request) (created_calls launch program))))
      by true on c made r can h = shown_free asking.SuidBit kinds.SetsMode refl on (λ call x. sets_mode x.operation x.such)
      by false off true made r can h = shown_made made
      by false off false none' true can h = shown_requested can
      by false off false none' false stops h = shown_created h

  pub shown : (question : Question) → IsFit launch.site question → is_open launch question ≡ true
      → Shows world question (calls_for launch program question)
  unfolding calls_for
  shown (asking.Path wish place) fit e =
      let x = listed_is (can_reach launch (power_of launch) wish) (slice_get launch.site.rows place) e in
      of_listed (asking.Path wish place) (row_calls launch program wish) (slice_get launch.site.rows place) x.0 x.1
      (row_shown world launch l o s program p place x.0 x.1 wish fit x.2)
  shown (asking.Call place) fit e =
      let x = listed_is (is_call_open launch (ceiling launch)) (slice_get (every_call launch.calls) place) e in
      let both = and_parts (list_any (is_called launch x.0.name) (every_call launch.calls)) (can_have_for (ceiling launch) (rule_of x.0)) x.2 in
      of_listed (asking.Call place) (plain_calls launch program) (slice_get (every_call launch.calls) place) x.0 x.1
      (shown_call place x.0 x.1 both.0 both.1)
  shown (asking.Socket place) fit e =
      let x = listed_is (λ line. can_make_socket launch line.number && can_have_cap (ceiling launch) line.cap) (slice_get launch.calls.families place) e in
      let both = and_parts (can_make_socket launch x.0.number) (can_have_cap (ceiling launch) x.0.cap) x.2 in
      of_listed (asking.Socket place) (socket_calls launch program) (slice_get launch.calls.families place) x.0 x.1
      (shown_socket place x.0 x.1 both.0 both.1)
  shown (asking.Namespace space) fit e = shown_ns space e
  shown asking.MapWx fit e =
      let both = and_parts (not launch.creds.mdwe) (lets launch kinds.MapsWx) e in
      shown_free asking.MapWx kinds.MapsWx both.0 both.1 (λ call x. x.such)
  shown asking.ProtectX fit e = shown_free asking.ProtectX kinds.ProtectsX refl e (λ call x. x.such)
  shown asking.ShmX fit e = shown_attached e
  shown asking.Realtime fit e = shown_realtime e
  shown asking.Personality fit e = shown_free asking.Personality kinds.TakesPersonality refl e (λ call x. x.such)
  shown asking.SuidBit fit e = shown_suid e
  shown (asking.Cap number) fit e = let g = gained launch l o program p number e in creds_show launch launch.creds g.creds launch.table g.now world (gaining launch program number) (asking.Cap number) s g.way g.holds
  shown (asking.Uid id) fit e = uid_shown world launch l o s program p id fit e
  shown (asking.Gid id) fit e = gid_shown world launch l o s program p id fit e

pub choice_shows : ChoiceShows
choice_shows world program question served runs fit e =
    shown world (launch_of world) served.launched.launched served.offers
    (starts_solo world served.launched served.few) program runs question fit e
