-- Calls that ask for a thing, and for no row.
use Rattle.std.specs.Prelude.{◌^◌, ◌%◌, not}
use Rattle.std.proofs.lemmas.Bool.{and_parts, not-true, eqb-true}
use Rattle.std.proofs.Common.{◌≡◌, ℕ, Bool, true, false, List, [], ◌∷◌, Option, Some, None, refl, ap, ◌∙◌, sym, subst, cond, eqb, arith, ◌<◌, ◌+◌}
use Rattle.std.proofs.lemmas.List.Elements.{All-from_recursion}
use Rattle.launcher.specs.abs_path.Paths.{Path}
use Rattle.launcher.specs.cap_sets.Sets.{has}
use Rattle.launcher.specs.linux_numbers.Errnos.{eacces, eperm}
use Rattle.launcher.specs.call_table.declared.call_names.rule.Argument.TheVariants as argument
use Rattle.launcher.specs.call_table.declared.call_names.rule.CallRule.TheVariants as known
use Rattle.launcher.specs.call_table.declared.listed.CallLine.{CallLine}
use Rattle.launcher.specs.call_table.Lookups.{numbered}
use Rattle.launcher.specs.kern_creds.declared.creds.Creds.{Creds}
use Rattle.launcher.specs.kern_mounts.Finds.{finds, row}
use Rattle.launcher.specs.kern_mounts.Split.{Table}
use Rattle.launcher.specs.site_table.declared.row.Row.{Row}
use Rattle.launcher.specs.site_table.Table.{row_at}
use Rattle.launcher.specs.kernel_model.kernel_calls.Operation as d
use Rattle.launcher.specs.kernel_model.kernel_calls.Operation.{Operation}
use Rattle.launcher.specs.kernel_model.kernel_calls.Rules.{rule_of, rule_at}
use Rattle.launcher.specs.kernel_model.declared.kernel_calls.payload.Payload.TheVariants as pay
use Rattle.launcher.specs.kernel_model.declared.kernel_calls.rule.Rule.{Rule}
use Rattle.launcher.specs.kernel_model.declared.kernel_calls.rule.Rule.TheVariants as rule
use Rattle.launcher.specs.kernel_model.kern_files.Bits.{has_all}
use Rattle.launcher.specs.kernel_model.kern_files.Looking.{see_answer}
use Rattle.launcher.specs.kernel_model.kernel_calls.Calls.{IsPath}
use Rattle.launcher.specs.kernel_model.Effects as f
use Rattle.launcher.specs.kernel_model.Effects.{Effect, effect_of, looks, with_cap_of, socket_effect, sockets_effect, no_pair}
use Rattle.launcher.specs.kernel_laws.Bound.{is_user}
use Rattle.launcher.specs.kernel_laws.Denied.{asks_space, asks_attach, asks_mode, asks_realtime}
use Rattle.launcher.specs.kernel_laws.declared.question_types.kind.CallKind.{CallKind}
use Rattle.launcher.specs.linux_numbers.declared.namespaces.NamespaceType.{NamespaceType}
use Rattle.launcher.specs.kernel_laws.declared.question_types.kind.CallKind.TheVariants as kinds
use Rattle.launcher.specs.linux_numbers.declared.namespaces.NamespaceType.TheVariants as namespace
use Rattle.launcher.specs.kernel_laws.Kinds as k
use Rattle.launcher.specs.kernel_laws.Kinds.{AreWords, asks_attach_read, asks_attributes, asks_plain, asks_schedule, family_payload, no_words, one_word}
use Rattle.launcher.specs.kernel_laws.Kinds.{asks_created_mode, asks_made_mode, asks_set_mode, made_words, realtime_payload, space_payload}
use Rattle.launcher.specs.kernel_laws.Launched.{Launch, passes}
use Rattle.launcher.specs.linux_numbers.Namespaces.{flag_of}
use Rattle.kernel_ways.specs.Ways.{effect_on, host_at, caller_at, CallAt, IsCallAt, rule_there, passes_at, place_of}
use Rattle.kernel_ways.proofs.Choices as choices
use Rattle.kernel_ways.proofs.Operations.{Performed}
use Rattle.kernel_ways.proofs.Lines.{Line, choice_of, flag_fits, flag_words, make, six, zeros, first_by}
use Rattle.kernel_ways.specs.Showing.{IsDoable}

-- the capability is effective, if there is one
abbrev pub CapAtHand : Creds → Option ℕ → Type 0
CapAtHand creds None = Unit {0}
CapAtHand creds (Some number) = has creds.effective number ≡ true

pub cap_lets : (creds : Creds) (o : Option ℕ) (effect : Effect) → CapAtHand creds o → with_cap_of o creds effect ≡ effect
cap_lets creds None effect h = refl
cap_lets creds (Some number) effect h = ap (λ b. cond b effect (f.Refuse eperm)) h

-- memory that is only read is attached too
pub read_attaches : (operation : Operation) → asks_attach_read operation ≡ true → asks_attach operation ≡ true
read_attaches (d.Attach flags) e = (and_parts (has_all 0x8000 flags) (has_all 0x1000 flags) e).0
read_attaches operation e = cc

-- each of these calls gives a set-id bit
pub sets_mode : (operation : Operation) → asks_set_mode operation ≡ true → asks_mode operation ≡ true
sets_mode (d.SetMode mode) e = e
sets_mode operation e = cc

pub created_bit : (operation : Operation) → asks_created_mode operation ≡ true → asks_mode operation ≡ true
created_bit (d.Create mode path) e = e
created_bit operation e = cc

pub makes_bit : (operation : Operation) → asks_made_mode operation ≡ true → asks_mode operation ≡ true
makes_bit (d.Open flags mode path) e = e
makes_bit operation e = cc

-- either call takes a realtime policy
pub schedules : (operation : Operation) → asks_schedule operation ≡ true → asks_realtime operation ≡ true
schedules (d.Schedule policy) e = e
schedules operation e = cc

pub sets_realtime : (operation : Operation) → asks_attributes operation ≡ true → asks_realtime operation ≡ true
sets_realtime (d.SetAttributes policy) e = e
sets_realtime operation e = cc

-- a call asks for it by its words alone, and every process may, by whether it has the mark that refuses memory
abbrev pub is_free : CallKind → Bool → Bool
is_free kinds.MapsWx marked = not marked
is_free kinds.ProtectsX marked = true
is_free kinds.AttachesX marked = not marked
is_free kinds.AttachesReadOnlyX marked = true
is_free kinds.SchedulesRealtime marked = true
is_free kinds.TakesPersonality marked = true
is_free kinds.SetsMode marked = true
is_free kind marked = false

module _ (launch : Launch) (creds : Creds) (table : Table) where
  -- a call without a payload, by its number and its words
  bare_call : (p : Operation → Bool) (nr : CallAt) (own : Rule) (args : List ℕ) (operation : Operation) (effect : Effect) → IsCallAt nr
      → AreWords args → rule_there launch nr ≡ Some own → passes_at launch nr args
      → d.operation_by own args pay.Nothing ≡ Some operation → effect_on (host_at launch) (caller_at launch creds table) table operation ≡ effect
      → IsDoable effect → p operation ≡ true → Performed launch creds table p (first_by nr args pay.Nothing)
  bare_call p nr own args operation effect n w at t is e h such = record {
    operation = operation;
    effect = effect;
    makes = make launch creds table nr own args pay.Nothing operation effect n w tt at is t e;
    doable = h;
    such = such;
  }

  -- what the mark refuses
  unrefused : not creds.mdwe ≡ true → cond creds.mdwe (f.Refuse eacces) (f.Answer 0) ≡ f.Answer 0
  unrefused h = ap (λ b. cond b (f.Refuse eacces) (f.Answer 0)) (not-true creds.mdwe h)

  free_by : {kind : CallKind} {own : Rule} {args : List ℕ} → (nr : CallAt) → IsCallAt nr → rule_there launch nr ≡ Some own
      → passes_at launch nr args → is_free kind creds.mdwe ≡ true → choices.Choice kind own args
      → Performed launch creds table (k.asks kind) (first_by nr args pay.Nothing)
  free_by nr n at t h choices.maps = bare_call (k.asks kinds.MapsWx) nr (rule.Known known.Map) (one_word 2 6) (d.Map 6) (f.Answer 0) n
      (six 0 0 6 0 (omega arith) (omega arith) (omega arith) (omega arith)) at t refl (unrefused h) tt refl
  free_by nr n at t h choices.protects = bare_call (k.asks kinds.ProtectsX) nr (rule.Known known.Protect) (one_word 2 4) (d.Protect 4)
      (f.Answer 0) n (six 0 0 4 0 (omega arith) (omega arith) (omega arith) (omega arith)) at t refl refl tt refl
  free_by nr n at t h choices.attaches = bare_call (k.asks kinds.AttachesX) nr (rule.Known known.Attach) (one_word 2 0x8000)
      (d.Attach 0x8000) (f.Answer 0) n (six 0 0 0x8000 0 (omega arith) (omega arith) (omega arith) (omega arith)) at t refl (unrefused h) tt
      refl
  free_by nr n at t h choices.attaches_to_read = bare_call (k.asks kinds.AttachesReadOnlyX) nr (rule.Known known.Attach) (one_word 2 0x9000)
      (d.Attach 0x9000) (f.Answer 0) n (six 0 0 0x9000 0 (omega arith) (omega arith) (omega arith) (omega arith)) at t refl refl tt refl
  free_by nr n at t h choices.schedules = bare_call (k.asks kinds.SchedulesRealtime) nr (rule.Known known.Schedule) (one_word 1 1)
      (d.Schedule 1) (f.Answer 0) n (six 0 1 0 0 (omega arith) (omega arith) (omega arith) (omega arith)) at t refl refl tt refl
  free_by nr n at t h choices.personality = bare_call (k.asks kinds.TakesPersonality) nr (rule.Known known.Personality) (one_word 0 8)
      (d.Personality 8) (f.Answer 0) n (six 8 0 0 0 (omega arith) (omega arith) (omega arith) (omega arith)) at t refl refl tt refl
  free_by nr n at t h (choices.mode argument.Second) = bare_call (k.asks kinds.SetsMode) nr (rule.Known (known.SetMode argument.Second))
      (one_word 1 0x800) (d.SetMode 0x800) (f.Answer 0) n (six 0 0x800 0 0 (omega arith) (omega arith) (omega arith) (omega arith)) at t
      refl refl tt refl
  free_by nr n at t h (choices.mode argument.Third) = bare_call (k.asks kinds.SetsMode) nr (rule.Known (known.SetMode argument.Third))
      (one_word 2 0x800) (d.SetMode 0x800) (f.Answer 0) n (six 0 0 0x800 0 (omega arith) (omega arith) (omega arith) (omega arith)) at t
      refl refl tt refl
  free_by nr n at t h choice = cc

  pub free : (kind : CallKind) → is_free kind creds.mdwe ≡ true → (line : Line launch kind)
      → Performed launch creds table (k.asks kind) (first_by (place_of line.line) line.args pay.Nothing)
  free kind h line = free_by (place_of line.line) line.number line.at line.through h (choice_of line)

  -- a file with a set-id bit that is made at a path which finds a row
  makes_by : (path : Path) → IsPath path → (target : Row) → finds (row_at launch.site.rows) table path ≡ row target
      → {own : Rule} {args : List ℕ} → (nr : CallAt) → IsCallAt nr → rule_there launch nr ≡ Some own → passes_at launch nr args
      → choices.Choice kinds.OpensMode own args → Performed launch creds table asks_made_mode (first_by nr args (pay.OnePath path))
  makes_by path fit target found nr n at t (choices.opens_mode argument.Second) = record {
    operation = d.Open 0x41_0000 0x800 path;
    effect = f.Answer 3;
    makes = make launch creds table nr (rule.Known (known.OpenWith argument.Second)) (made_words argument.Second) (pay.OnePath path)
        (d.Open 0x41_0000 0x800 path) (f.Answer 3) n (six 0 0x41_0000 0x800 0 (omega arith) (omega arith) (omega arith) (omega arith)) fit
        at refl t (ap (λ x. looks (see_answer 3 x)) found);
    doable = tt;
    such = refl;
  }
  makes_by path fit target found nr n at t (choices.opens_mode argument.Third) = record {
    operation = d.Open 0x41_0000 0x800 path;
    effect = f.Answer 3;
    makes = make launch creds table nr (rule.Known (known.OpenWith argument.Third)) (made_words argument.Third) (pay.OnePath path)
        (d.Open 0x41_0000 0x800 path) (f.Answer 3) n (six 0 0 0x41_0000 0x800 (omega arith) (omega arith) (omega arith) (omega arith)) fit
        at refl t (ap (λ x. looks (see_answer 3 x)) found);
    doable = tt;
    such = refl;
  }

  pub makes_mode : (path : Path) → IsPath path → (target : Row) → finds (row_at launch.site.rows) table path ≡ row target
      → (line : Line launch kinds.OpensMode)
      → Performed launch creds table asks_made_mode (first_by (place_of line.line) line.args (pay.OnePath path))
  makes_mode path fit target found line = makes_by path fit target found (place_of line.line) line.number line.at line.through (choice_of line)

  -- a realtime policy, by CAP_SYS_NICE
  attributes_by : {own : Rule} {args : List ℕ} → (nr : CallAt) → IsCallAt nr → rule_there launch nr ≡ Some own → passes_at launch nr args
      → choices.Choice kinds.SetsRealtime own args → CapAtHand creds (Some 23)
      → Performed launch creds table asks_attributes (first_by nr args realtime_payload)
  attributes_by nr n at t choices.sets_attributes can = record {
    operation = d.SetAttributes 1;
    effect = f.Answer 0;
    makes = make launch creds table nr (rule.Known known.SetAttributes) no_words realtime_payload (d.SetAttributes 1) (f.Answer 0) n zeros
        (omega arith) at refl t (cap_lets creds (Some 23) (f.Answer 0) can);
    doable = tt;
    such = refl;
  }

  pub attributes : (line : Line launch kinds.SetsRealtime) → CapAtHand creds (Some 23)
      → Performed launch creds table asks_attributes (first_by (place_of line.line) line.args realtime_payload)
  attributes line can = attributes_by (place_of line.line) line.number line.at line.through (choice_of line) can

  -- a plain call, with its capability
  abbrev pub can_for : Option Rule → Type 0
  can_for (Some (rule.Plain number)) = CapAtHand creds number
  can_for _ = Unit {0}

  rule_by : {own : Rule} {args : List ℕ} → (line : CallLine) → rule_of line ≡ Some own → choices.Choice kinds.PlainCall own args
      → (number : Option ℕ) × (rule_of line ≡ Some (rule.Plain number))
  rule_by line is (choices.plain number) = (number, is)

  pub plain_rule : (line : Line launch kinds.PlainCall) → (number : Option ℕ) × (rule_of line.line ≡ Some (rule.Plain number))
  plain_rule line = rule_by line.line line.is (choice_of line)

  plain_by : {own : Rule} {args : List ℕ} → (line : CallLine) → IsCallAt (place_of line) → rule_of line ≡ Some own
      → rule_there launch (place_of line) ≡ Some own → passes_at launch (place_of line) args → choices.Choice kinds.PlainCall own args
      → can_for (rule_of line) → Performed launch creds table asks_plain (first_by (place_of line) args pay.Nothing)
  plain_by line n is at t (choices.plain number) can =
      let has' : CapAtHand creds number = subst can_for is can in
      record {
        operation = d.Plain number;
        effect = f.Answer 0;
        makes = make launch creds table (place_of line) (rule.Plain number) no_words pay.Nothing (d.Plain number)
            (f.Answer 0) n zeros tt at refl t (cap_lets creds number (f.Answer 0) has');
        doable = tt;
        such = refl;
      }

  pub plain : (line : Line launch kinds.PlainCall) → can_for (rule_of line.line)
      → Performed launch creds table asks_plain (first_by (place_of line.line) line.args pay.Nothing)
  plain line can = plain_by line.line line.number line.is line.at line.through (choice_of line) can

  -- a socket of a family
  low : (n : ℕ) → n < 2 ^ 32 → n % 2 ^ 32 ≡ n
  low n h = omega (arith, h)

  wide_low : (n : ℕ) → n < 2 ^ 32 → (2 ^ 32 + n) % 2 ^ 32 ≡ n
  wide_low n h = omega (arith, h)

  wide_word : (n : ℕ) → n < 2 ^ 32 → AreWords ((2 ^ 32 + n) ∷ 0 ∷ 0 ∷ 0 ∷ 0 ∷ 0 ∷ [])
  wide_word n h = record {
    count = refl;
    each = All-from_recursion (λ arg. arg < 2 ^ 64) ((2 ^ 32 + n) ∷ 0 ∷ 0 ∷ 0 ∷ 0 ∷ 0 ∷ [])
        (omega (arith, h), (omega arith, (omega arith, (omega arith, (omega arith, (omega arith, tt))))));
  }

  socket_by : (family : CallLine) → family.number < 2 ^ 32 → {own : Rule} {args : List ℕ} → (nr : CallAt) → IsCallAt nr
      → rule_there launch nr ≡ Some own → passes_at launch nr args → choices.Choice (kinds.ForFamily family.number) own args
      → numbered family.number launch.calls.families ≡ Some family → CapAtHand creds family.cap → (p : Operation → Bool)
      → p (d.Socket family.number) ≡ true → p (d.Socketcall 1 family.number) ≡ true
      → (eqb family.number 1 ≡ true → p (d.Socketpair family.number) ≡ true)
      → Performed launch creds table p (first_by nr args (family_payload own family.number))
  socket_by family small nr n at t (choices.socket _) found can p such through paired =
      let word : family.number % 2 ^ 32 ≡ family.number = low family.number small in
      bare_call p nr (rule.Known known.Socket) (family.number ∷ 0 ∷ 0 ∷ 0 ∷ 0 ∷ 0 ∷ []) (d.Socket family.number) (f.Answer 3) n
      (six family.number 0 0 0 small (omega arith) (omega arith) (omega arith)) at t
      (ap (λ w. Some (d.Socket w)) word)
      (ap (socket_effect false creds) found ∙ cap_lets creds family.cap (f.Answer 3) can) tt such
  socket_by family small nr n at t (choices.wide_socket _) found can p such through paired =
      bare_call p nr (rule.Known known.Socket) ((2 ^ 32 + family.number) ∷ 0 ∷ 0 ∷ 0 ∷ 0 ∷ 0 ∷ []) (d.Socket family.number) (f.Answer 3) n
      (wide_word family.number small) at t
      (ap (λ w. Some (d.Socket w)) (wide_low family.number small))
      (ap (socket_effect false creds) found ∙ cap_lets creds family.cap (f.Answer 3) can) tt such
  socket_by family small nr n at t (choices.socketcall _) found can p such through paired = record {
    operation = d.Socketcall 1 family.number;
    effect = f.Answer 3;
    makes =
        make launch creds table nr (rule.Known known.Socketcall) (one_word 0 1) (pay.Number family.number) (d.Socketcall 1 family.number)
        (f.Answer 3) n (six 1 0 0 0 (omega arith) (omega arith) (omega arith) (omega arith)) small at refl t
        (ap (socket_effect false creds) found ∙ cap_lets creds family.cap (f.Answer 3) can);
    doable = tt;
    such = through;
  }
  socket_by family small nr n at t (choices.socketpair _ is) found can p such through paired =
      let one : family.number ≡ 1 = eqb-true family.number 1 is in
      bare_call p nr (rule.Known known.Socketpair) (one_word 0 1) (d.Socketpair family.number) (f.Answer 0) n
      (six 1 0 0 0 (omega arith) (omega arith) (omega arith) (omega arith)) at t (ap (λ w. Some (d.Socketpair w)) (sym one))
      (ap (λ b. cond b (sockets_effect 0 false creds (numbered family.number launch.calls.families))
      (no_pair (numbered family.number launch.calls.families))) is
      ∙ ap (sockets_effect 0 false creds) found ∙ cap_lets creds family.cap (f.Answer 0) can) tt (paired is)

  pub socket : (family : CallLine) → family.number < 2 ^ 32 → (line : Line launch (kinds.ForFamily family.number))
      → numbered family.number launch.calls.families ≡ Some family → CapAtHand creds family.cap → (p : Operation → Bool)
      → p (d.Socket family.number) ≡ true → p (d.Socketcall 1 family.number) ≡ true
      → (eqb family.number 1 ≡ true → p (d.Socketpair family.number) ≡ true)
      → Performed launch creds table p (first_by (place_of line.line) line.args (family_payload line.own family.number))
  socket family small line found can p such through paired =
      socket_by family small (place_of line.line) line.number line.at line.through (choice_of line) found can p such through paired

  -- a namespace of its own
  module _ (admin : has creds.effective 21 ≡ true) where
    admits : (effect : Effect) → cond (has creds.effective 21) effect (f.Refuse eperm) ≡ effect
    admits effect = ap (λ b. cond b effect (f.Refuse eperm)) admin

    unshared : (space : NamespaceType) (effect : Effect) (nr : CallAt) → IsCallAt nr
        → rule_there launch nr ≡ Some (rule.Known known.Unshare) → passes_at launch nr (one_word 0 (flag_of space))
        → d.operation_by (rule.Known known.Unshare) (one_word 0 (flag_of space)) pay.Nothing ≡ Some (d.Unshare (flag_of space))
        → effect_on (host_at launch) (caller_at launch creds table) table (d.Unshare (flag_of space)) ≡ effect → IsDoable effect
        → asks_space space (d.Unshare (flag_of space)) ≡ true
        → Performed launch creds table (asks_space space) (first_by nr (one_word 0 (flag_of space)) pay.Nothing)
    unshared space effect nr n at t is e h such = bare_call (asks_space space) nr (rule.Known known.Unshare) (one_word 0 (flag_of space))
        (d.Unshare (flag_of space)) effect n (flag_words space) at t is e h such

    cloned : (space : NamespaceType) (effect : Effect) (nr : CallAt) → IsCallAt nr → rule_there launch nr ≡ Some (rule.Known known.Clone)
        → passes_at launch nr (one_word 0 (flag_of space)) → d.operation_by (rule.Known known.Clone) (one_word 0 (flag_of space)) pay.Nothing
        ≡ Some (d.Clone (flag_of space))
        → effect_on (host_at launch) (caller_at launch creds table) table (d.Clone (flag_of space)) ≡ effect → IsDoable effect
        → asks_space space (d.Clone (flag_of space)) ≡ true
        → Performed launch creds table (asks_space space) (first_by nr (one_word 0 (flag_of space)) pay.Nothing)
    cloned space effect nr n at t is e h such = bare_call (asks_space space) nr (rule.Known known.Clone) (one_word 0 (flag_of space))
        (d.Clone (flag_of space)) effect n (flag_words space) at t is e h such

    unshare_by : (space : NamespaceType) → is_user space ≡ false → (nr : CallAt) → IsCallAt nr
        → rule_there launch nr ≡ Some (rule.Known known.Unshare) → passes_at launch nr (one_word 0 (flag_of space))
        → Performed launch creds table (asks_space space) (first_by nr (one_word 0 (flag_of space)) pay.Nothing)
    unshare_by namespace.Cgroup u nr n at t = unshared namespace.Cgroup (f.Answer 0) nr n at t refl (admits (f.Answer 0)) tt refl
    unshare_by namespace.Ipc u nr n at t = unshared namespace.Ipc (f.Answer 0) nr n at t refl (admits (f.Answer 0)) tt refl
    unshare_by namespace.Net u nr n at t = unshared namespace.Net (f.Answer 0) nr n at t refl (admits (f.Answer 0)) tt refl
    unshare_by namespace.Mnt u nr n at t = unshared namespace.Mnt f.OwnTable nr n at t refl (admits f.OwnTable) tt refl
    unshare_by namespace.Pid u nr n at t = unshared namespace.Pid (f.Answer 0) nr n at t refl (admits (f.Answer 0)) tt refl
    unshare_by namespace.User u nr n at t = cc
    unshare_by namespace.Uts u nr n at t = unshared namespace.Uts (f.Answer 0) nr n at t refl (admits (f.Answer 0)) tt refl

    clone_by : (space : NamespaceType) → is_user space ≡ false → (nr : CallAt) → IsCallAt nr
        → rule_there launch nr ≡ Some (rule.Known known.Clone) → passes_at launch nr (one_word 0 (flag_of space))
        → Performed launch creds table (asks_space space) (first_by nr (one_word 0 (flag_of space)) pay.Nothing)
    clone_by namespace.Cgroup u nr n at t = cloned namespace.Cgroup (f.Child false) nr n at t refl (admits (f.Child false)) tt refl
    clone_by namespace.Ipc u nr n at t = cloned namespace.Ipc (f.Child false) nr n at t refl (admits (f.Child false)) tt refl
    clone_by namespace.Net u nr n at t = cloned namespace.Net (f.Child false) nr n at t refl (admits (f.Child false)) tt refl
    clone_by namespace.Mnt u nr n at t = cloned namespace.Mnt (f.Child true) nr n at t refl (admits (f.Child true)) tt refl
    clone_by namespace.Pid u nr n at t = cloned namespace.Pid (f.Child false) nr n at t refl (admits (f.Child false)) tt refl
    clone_by namespace.User u nr n at t = cc
    clone_by namespace.Uts u nr n at t = cloned namespace.Uts (f.Child false) nr n at t refl (admits (f.Child false)) tt refl

    -- clone3(2) carries the flag
    cloned3 : (space : NamespaceType) (effect : Effect) (nr : CallAt) → IsCallAt nr → rule_there launch nr ≡ Some (rule.Known known.Clone3)
        → passes_at launch nr no_words
        → effect_on (host_at launch) (caller_at launch creds table) table (d.Clone (flag_of space)) ≡ effect → IsDoable effect
        → asks_space space (d.Clone (flag_of space)) ≡ true
        → Performed launch creds table (asks_space space) (first_by nr no_words (pay.Number (flag_of space)))
    cloned3 space effect nr n at t e h such = record {
      operation = d.Clone (flag_of space);
      effect = effect;
      makes = make launch creds table nr (rule.Known known.Clone3) no_words (pay.Number (flag_of space)) (d.Clone (flag_of space)) effect n
          zeros (flag_fits space) at refl t e;
      doable = h;
      such = such;
    }

    clone3_by : (space : NamespaceType) → is_user space ≡ false → (nr : CallAt) → IsCallAt nr
        → rule_there launch nr ≡ Some (rule.Known known.Clone3) → passes_at launch nr no_words
        → Performed launch creds table (asks_space space) (first_by nr no_words (pay.Number (flag_of space)))
    clone3_by namespace.Cgroup u nr n at t = cloned3 namespace.Cgroup (f.Child false) nr n at t (admits (f.Child false)) tt refl
    clone3_by namespace.Ipc u nr n at t = cloned3 namespace.Ipc (f.Child false) nr n at t (admits (f.Child false)) tt refl
    clone3_by namespace.Net u nr n at t = cloned3 namespace.Net (f.Child false) nr n at t (admits (f.Child false)) tt refl
    clone3_by namespace.Mnt u nr n at t = cloned3 namespace.Mnt (f.Child true) nr n at t (admits (f.Child true)) tt refl
    clone3_by namespace.Pid u nr n at t = cloned3 namespace.Pid (f.Child false) nr n at t (admits (f.Child false)) tt refl
    clone3_by namespace.User u nr n at t = cc
    clone3_by namespace.Uts u nr n at t = cloned3 namespace.Uts (f.Child false) nr n at t (admits (f.Child false)) tt refl

    space_by : {own : Rule} {args : List ℕ} → (space : NamespaceType) → is_user space ≡ false → (nr : CallAt) → IsCallAt nr
        → rule_there launch nr ≡ Some own → passes_at launch nr args → choices.Choice (kinds.ForNamespace space) own args
        → Performed launch creds table (asks_space space) (first_by nr args (space_payload own space))
    space_by space u nr n at t (choices.unshare _) = unshare_by space u nr n at t
    space_by space u nr n at t (choices.clone _) = clone_by space u nr n at t
    space_by space u nr n at t (choices.clone3 _) = clone3_by space u nr n at t

    pub own_space : (space : NamespaceType) → is_user space ≡ false → (line : Line launch (kinds.ForNamespace space))
        → Performed launch creds table (asks_space space) (first_by (place_of line.line) line.args (space_payload line.own space))
    own_space space u line = space_by space u (place_of line.line) line.number line.at line.through (choice_of line)
