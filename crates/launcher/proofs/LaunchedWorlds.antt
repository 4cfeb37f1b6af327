-- A launch by the programs of settings leaves what the judge stands on.
use Rattle.std.proofs.Common.{◌≡◌, ℕ, Bool, true, false, cond, List, [], ◌∷◌, Option, Some, None, inl, inr, refl, ap, ◌∙◌, sym, subst}
use Rattle.std.proofs.Common.{arith, map, codes}
use Rattle.std.specs.Str.{bytes_eq}
use Rattle.std.specs.Prelude.{◌==◌, ◌&&◌, ◌≤◌, find, reverse, option_and_then, unwrap_or, IfSome}
use mathlib.Core.List.{reverse_aux}
use Rattle.std.specs.List.{AllByRecursion}
use Rattle.std.specs.Option.{option_map_or}
use Rattle.std.proofs.lemmas.Int.{ints}
use Rattle.kernel_laws.specs.bpf_code.declared.machine.Insn.{Insn}
use Rattle.kernel_laws.specs.bpf_code.declared.machine.CallData.{CallData}
use Rattle.kernel_laws.specs.bpf_code.Meaning.{IsCallData}
use Rattle.kernel_laws.specs.bpf_code.Refusing.{IsPlain, ArePlain}
use Rattle.kernel_laws.specs.bpf_code.Stack.{answers_of}
use Rattle.kernel_laws.specs.call_table.declared.listed.CallLine.{CallLine}
use Rattle.kernel_laws.specs.call_table.Lookups.{numbered}
use Rattle.kernel_laws.specs.call_table.Table as calls
use Rattle.exec_settings.specs.call_rules.Action.{word_of}
use Rattle.kernel_laws.specs.call_table.declared.call_names.rule.CallRule.TheVariants as known
use Rattle.kernel_laws.specs.call_table.Facts.{AreOf, IsWhole}
use Rattle.exec_settings.specs.call_rules.declared.actions.Action.{Action}
use Rattle.exec_settings.specs.call_rules.declared.actions.Action.TheVariants as action
use Rattle.kernel_laws.specs.linux_numbers.Limits.{max_errno}
use Rattle.exec_settings.specs.filter_settings.filter_rules.Actions.{unless_refused}
use Rattle.exec_settings.specs.filter_settings.filter_rules.Refusing.{IsRefusing, HasRefusal, HasRefusals, AreRefusing}
use Rattle.std.proofs.lemmas.List.Elements.{recursion_from_All}
use Rattle.exec_settings.specs.filter_settings.filter_rules.Calls.{call_action, rest_action, listed_by, last_mention, if_adds}
use Rattle.exec_settings.specs.filter_settings.filter_rules.Calls.{listed_action, hidden_action, is_unknown}
use Rattle.exec_settings.specs.filter_settings.filter_rules.Covers.{covers}
use Rattle.exec_settings.specs.filter_settings.filter_rules.Suid.{suid_action}
use Rattle.exec_settings.specs.filter_settings.filter_rules.Namespaces.{namespace_action}
use Rattle.exec_settings.specs.filter_settings.declared.filter_rules.namespace_types.NamespaceTypes.{NamespaceTypes}
use Rattle.exec_settings.specs.unit_names.declared.version.Version.{Version}
use Rattle.exec_settings.specs.filter_settings.declared.filter_rules.mentions.CallList.{CallList}
use Rattle.exec_settings.specs.filter_settings.declared.filter_rules.mentions.Mention.{Mention}
use Rattle.exec_settings.specs.filter_settings.declared.filter_rules.mentions.Mode.{Mode}
use Rattle.exec_settings.specs.filter_settings.declared.filter_rules.mentions.Mode.TheVariants.{Allow, Deny}
use Rattle.exec_settings.specs.filter_settings.declared.filter_rules.names.FilterName.{FilterName}
use Rattle.exec_settings.specs.filter_settings.declared.filter_rules.names.FilterName.TheVariants.{Families, MemoryDenyWriteExecute}
use Rattle.exec_settings.specs.filter_settings.declared.filter_rules.names.FilterName.TheVariants.{Realtime, Suid, Namespaces, Tunables, Hostname}
use Rattle.exec_settings.specs.filter_settings.declared.filter_rules.names.FilterName.TheVariants.{Modules, Logs, Clock, Devices}
use Rattle.exec_settings.specs.filter_settings.declared.filter_rules.names.FilterName.TheVariants.{Personality, Calls, Archs}
use Rattle.exec_settings.specs.filter_settings.declared.filter_rules.settings.FilterSettings.{FilterSettings}
use Rattle.exec_settings.specs.filter_settings.filter_rules.Wanted.{named_action, unnamed_action, other_action, wanted_action}
use Rattle.kernel_laws.specs.FirstChoice.{Means}
use Rattle.launcher.proofs.TwoAbis.{once_in, of_abi_in, one_cap_in, range_in, archs_differ}
use Rattle.launcher.specs.Launch.{Wanted, held_if, number_of}
use Rattle.launcher.proofs.LaunchCalls.{launch_calls}
use Rattle.launcher.proofs.Leading.{clash}
use Rattle.kernel_laws.specs.Kinds.{no_words}
use Rattle.kernel_laws.specs.Launched.{Launch, IsLaunched, first_of, process_or, is_pass, lets, lets_line, lets_rule, lets_words, passes}
use Rattle.kernel_laws.specs.declared.question_types.kind.CallKind.TheVariants.{SetsCaps}
use Rattle.kernel_laws.specs.kernel_model.declared.kernel_calls.rule.Rule.{Rule}
use Rattle.kernel_laws.specs.kernel_model.declared.kernel_calls.rule.Rule.TheVariants.{Known}
use Rattle.kernel_laws.specs.kernel_model.kernel_calls.Rules.{rule_at}
use Rattle.kernel_laws.proofs.Filters.{among_all, any_found, found_all, found_number, has_rule}
use Rattle.exec_settings.specs.cap_sets.Sets.{none, union, IsWithin}
use Rattle.exec_settings.proofs.OfCapSets.Members.{none_within, union_within, within_self, within_through}
use Rattle.kernel_laws.specs.kern_mounts.Mounts.{plain as plain_mount, ArePlain as ArePlainMounts}
use Rattle.kernel_laws.proofs.OfKernMounts.Leaving.{ascending_is_ordered}
use Rattle.kernel_laws.proofs.OfKernMounts.Plain.{are_plain}
use Rattle.kernel_laws.specs.kern_mounts.Split.{Table}
use Rattle.kernel_laws.specs.kernel_model.MountNamespaces.{namespace_or, owned_by_first}
use Rattle.kernel_laws.specs.kernel_model.World.{World, of_number, namespace_of, mounts_of}
use Rattle.kernel_laws.specs.kernel_model.declared.mount_namespace.MountNamespace.{MountNamespace}
use Rattle.kernel_laws.specs.kernel_model.declared.process.Process.{Process}
use Rattle.kernel_laws.proofs.SettingsChoose.{settings_choose}
use Rattle.launcher.specs.Launches.{AreRead, Leaves}
use Rattle.launcher.specs.LaunchedWorlds.{IsMeant, LaunchedIsWorld}
use Rattle.kernel_laws.specs.kern_mounts.Launch.{BeginsAtRoot}
use Rattle.launcher.proofs.LaunchWorld.{launch_leaves}
use Rattle.exec_settings.specs.site_table.Table.{Site}
use Rattle.kernel_laws.specs.kern_mounts.Table.{StartsAtRoot}

allow_plain : IsPlain (word_of action.Allow)
allow_plain = inl refl

kill_plain : IsPlain (word_of action.KillProcess)
kill_plain = inr (omega (arith, ints))

errno_plain : (number : ℕ) → number ≤ max_errno → IsPlain (word_of (action.Errno number))
errno_plain number small = inr (omega (arith, ints))

refusing_plain : (done : Action) → IsRefusing done → IsPlain (word_of done)
refusing_plain action.KillProcess refuses = kill_plain
refusing_plain (action.Errno number) refuses = errno_plain number refuses
refusing_plain action.Allow refuses = absurd refuses

unless_plain : (number : ℕ) (b : Bool) → number ≤ max_errno → IsPlain (word_of (unless_refused number b))
unless_plain number true small = errno_plain number small
unless_plain number false small = allow_plain

-- what is found in a list has what all have
found_has : {X : Type 0} (P : X → Type 0) (p : X → Bool) (xs : List X) → AllByRecursion P xs → IfSome (find p xs) P
found_has P p [] all' = tt
found_has P p (x ∷ xs) all' = by (p x) (found_has P p xs all'.1)
  where
    by : (b : Bool) → IfSome (find p xs) P → IfSome (cond b (Some x) (find p xs)) P
    by true more = all'.0
    by false more = more

all_onto : {X : Type 0} (P : X → Type 0) (xs ys : List X) → AllByRecursion P xs → AllByRecursion P ys → AllByRecursion P (reverse_aux xs ys)
all_onto P [] ys all' own = own
all_onto P (x ∷ xs) ys all' own = all_onto P xs (x ∷ ys) all'.1 (all'.0, own)

all_reverse : {X : Type 0} (P : X → Type 0) (xs : List X) → AllByRecursion P xs → AllByRecursion P (reverse xs)
all_reverse P xs all' = all_onto P xs [] all' tt

-- the action of a word, or another
word_plain : (own : Option Action) (other : Action) → IfSome own IsRefusing → IsPlain (word_of other) → IsPlain (word_of (unwrap_or own other))
word_plain None other h plain = plain
word_plain (Some own) other h plain = refusing_plain own h

-- what is not listed
hidden_plain : (default : Action) (mode : Mode) (hides : Bool) → IsRefusing default → IsPlain (word_of (hidden_action hides mode default))
hidden_plain default mode true d = errno_plain 38 (omega arith)
hidden_plain default Allow false d = refusing_plain default d
hidden_plain default Deny false d = allow_plain

listed_plain : (default : Action) (mode : Mode) (hides : Bool) (listed : Option Mention) → IsRefusing default → IfSome listed HasRefusal
    → IsPlain (word_of (option_map_or (listed_action mode default) listed (hidden_action hides mode default)))
listed_plain default mode hides None d m = hidden_plain default mode hides d
listed_plain default Allow hides (Some mention) d m = word_plain mention.action action.Allow m allow_plain
listed_plain default Deny hides (Some mention) d m = word_plain mention.action default m (refusing_plain default d)

adding : (o : Option Mention) → IfSome o HasRefusal → IfSome (option_and_then if_adds o) HasRefusal
adding None h = tt
adding (Some mention) h = by mention.adds
  where
    by : (b : Bool) → IfSome (cond b (Some mention) None) HasRefusal
    by true = h
    by false = tt

calls_plain : (table : calls.Table) (list : Option CallList) (default : Action) (name : List ℕ) → IsRefusing default → HasRefusals list
    → IsPlain (word_of (call_action table list default name))
calls_plain table None default name d m = allow_plain
calls_plain table (Some list) default name d m =
    listed_plain default list.mode (list.hides_unknown && is_unknown table name) (listed_by table list.mentions name) d
    (adding (last_mention table list.mentions name)
    (found_has HasRefusal (λ mention. covers table mention.name name) (reverse list.mentions)
    (all_reverse HasRefusal list.mentions (recursion_from_All HasRefusal list.mentions m))))

rest_plain : (list : Option CallList) (default : Action) → IsRefusing default → IsPlain (word_of (rest_action list default))
rest_plain None default d = allow_plain
rest_plain (Some list) default d = hidden_plain default list.mode list.hides_unknown d

module _ (settings : FilterSettings) (table : calls.Table) (a : AreRefusing settings) where
  lacking_plain : (lacks refused : Bool) → IsPlain (word_of (cond lacks (action.Errno 38) (unless_refused 1 refused)))
  lacking_plain true refused = errno_plain 38 (omega arith)
  lacking_plain false refused = unless_plain 1 refused (omega arith)

  suid_plain : (systemd : Option Version) (name : List ℕ) (input : CallData) → IsPlain (word_of (suid_action systemd name input))
  suid_plain None name input = unless_plain 1 _ (omega arith)
  suid_plain (Some version) name input = lacking_plain (bytes_eq name (codes "openat2")) _

  space_plain : (systemd : Option Version) (types : NamespaceTypes) (name : List ℕ) (input : CallData)
      → IsPlain (word_of (namespace_action systemd types name input))
  space_plain None types name input = unless_plain 1 _ (omega arith)
  space_plain (Some version) types name input = lacking_plain (bytes_eq name (codes "clone3")) _

  named_plain : (filter : FilterName) (name : List ℕ) (input : CallData) → IsPlain (word_of (named_action filter settings table name input))
  named_plain Families name input = unless_plain 97 _ (omega arith)
  named_plain MemoryDenyWriteExecute name input = unless_plain 1 _ (omega arith)
  named_plain Realtime name input = unless_plain 1 _ (omega arith)
  named_plain Suid name input = suid_plain settings.systemd name input
  named_plain Namespaces name input = space_plain settings.systemd settings.namespaces name input
  named_plain Tunables name input = unless_plain 1 _ (omega arith)
  named_plain Hostname name input = unless_plain 1 _ (omega arith)
  named_plain Modules name input = unless_plain 1 _ (omega arith)
  named_plain Logs name input = unless_plain 1 _ (omega arith)
  named_plain Clock name input = unless_plain 1 _ (omega arith)
  named_plain Devices name input = unless_plain 1 _ (omega arith)
  named_plain Personality name input = unless_plain 1 _ (omega arith)
  named_plain Calls name input = calls_plain table settings.calls settings.default_action name a.default a.suffixes
  named_plain Archs name input = kill_plain

  unnamed_plain : (filter : FilterName) → IsPlain (word_of (unnamed_action filter settings))
  unnamed_plain Families = allow_plain
  unnamed_plain MemoryDenyWriteExecute = allow_plain
  unnamed_plain Realtime = allow_plain
  unnamed_plain Suid = allow_plain
  unnamed_plain Namespaces = allow_plain
  unnamed_plain Tunables = allow_plain
  unnamed_plain Hostname = allow_plain
  unnamed_plain Modules = allow_plain
  unnamed_plain Logs = allow_plain
  unnamed_plain Clock = allow_plain
  unnamed_plain Devices = allow_plain
  unnamed_plain Personality = allow_plain
  unnamed_plain Calls = rest_plain settings.calls settings.default_action a.default
  unnamed_plain Archs = kill_plain

  other_plain : (second : Option calls.Abi) → IsPlain (word_of (other_action second))
  other_plain None = kill_plain
  other_plain (Some second) = allow_plain

  wanted_plain : (filter : FilterName) (abi : ℕ) (input : CallData) → IsPlain (word_of (wanted_action filter settings table abi input))
  wanted_plain filter abi input = by (input.arch == calls.arch_of table abi) (numbered input.nr (calls.calls_in table abi))
    where
      by : (b : Bool) (o : Option CallLine)
          → IsPlain (word_of (cond b
          (option_map_or (λ call. named_action filter settings table call.name input) o (unnamed_action filter settings))
          (other_action table.second)))
      by false o = other_plain table.second
      by true None = unnamed_plain filter
      by true (Some line) = named_plain filter line.name input

  meant_plain : (stack : List (List Insn)) → AllByRecursion (Means settings table) stack → (input : CallData) → IsCallData input
      → ArePlain (answers_of stack input)
  meant_plain [] each input fit = tt
  meant_plain (code ∷ stack) each input fit =
      let m : Means settings table code = each.0 in
      (subst IsPlain (sym (m.answers input fit)) (wanted_plain m.filter m.abi input), meant_plain stack each.1 input fit)

  read_means : (programs : List (List ℕ)) (stack : List (List Insn)) → AreRead programs stack
      → AllByRecursion (IsMeant settings table) programs → AllByRecursion (Means settings table) stack
  read_means [] [] read each = tt
  read_means [] (code ∷ stack) read each = absurd read
  read_means (bytes ∷ programs) [] read each = absurd read
  read_means (bytes ∷ programs) (code ∷ stack) read each = (each.0 code read.0, read_means programs stack read.1 each.1)

-- a call of capset(2) passes, so one with the words that are chosen does
caps_let : (launch : Launch) (nr : ℕ) → AreOf 0 launch.calls.calls → rule_at launch.calls.calls nr ≡ Some (Known known.Capset)
    → passes launch 0 nr no_words → lets launch SetsCaps ≡ true
unfolding lets
caps_let launch nr native at through =
    let rule : Rule = Known known.Capset in
    let h = has_rule launch.calls.calls nr rule at in
    let yes : lets_words launch 0 nr (Some no_words) ≡ true = ap is_pass through in
    let one : lets_line launch SetsCaps h.line ≡ true =
    ap (lets_rule launch SetsCaps h.line.abi h.line.number) h.is
    ∙ ap (λ n. lets_rule launch SetsCaps h.line.abi n (Some rule)) (found_number launch.calls.calls nr h.line h.found)
    ∙ ap (λ n. lets_rule launch SetsCaps n nr (Some rule)) (found_all (λ line. line.abi ≡ 0) launch.calls.calls nr h.line native h.found)
    ∙ ap (λ b. lets_words launch 0 nr (cond b (Some no_words) (Some no_words))) yes ∙ yes in
    among_all (lets_line launch SetsCaps) launch.calls 0
    (any_found (lets_line launch SetsCaps) launch.calls.calls nr h.line h.found one)

-- nothing was kept
within_alone : (one other : ℕ) → IsWithin one (union other none) → IsWithin one other
within_alone one other own = within_through one (union other none) other own (union_within other none other (within_self other) (none_within other))

-- what is inheritable is effective, unless capset(2) passes
inherits_effective : (table : calls.Table) (site : Site) (wanted : Wanted) (plan : Table) (last : World) → IsWhole table
    → (l : Leaves table site wanted plan last)
    → lets (record { calls = table; site = site; creds = l.creds; stack = l.stack; table = plan }) SetsCaps ≡ false
    → IsWithin l.creds.inheritable l.creds.effective
inherits_effective table site wanted plan last whole l stops = by wanted.keeps_capabilities refl
  where
    own : Launch
    own = record { calls = table; site = site; creds = l.creds; stack = l.stack; table = plan }

    nr : ℕ
    nr = number_of table.calls (codes "capset")

    through : wanted.keeps_capabilities ≡ true → passes own 0 nr no_words
    through on = subst (λ (launch : Launch). passes launch 0 nr no_words) l.is (l.capset_passes on)

    by : (b : Bool) → wanted.keeps_capabilities ≡ b → IsWithin l.creds.inheritable l.creds.effective
    by true on = absurd (clash (lets own SetsCaps)
        (caps_let own nr (of_abi_in table whole.sound 0) (launch_calls table whole).capset (through on)) stops)
    by false off = within_alone l.creds.inheritable l.creds.effective
        (subst (λ b. IsWithin l.creds.inheritable (union l.creds.effective (held_if b))) off l.as_launched.inheritable_effective)

first_of_alone : (table : calls.Table) (site : Site) (wanted : Wanted) (plan : Table) (last : World)
    (l : Leaves table site wanted plan last) → first_of last
    ≡ record { creds = l.creds; stack = l.stack; namespace = l.namespace; user = 1; alive = true }
first_of_alone table site wanted plan last l = ap (λ (ps : List Process). process_or (of_number ps 1)) l.alone

begins : (plan : Table) → BeginsAtRoot plan → StartsAtRoot plan
begins [] b = absurd b
begins (first ∷ rest) b = b.0

pub launched_is_world : LaunchedIsWorld
launched_is_world settings table site wanted plan last steps whole arch refusing can small keeps meant e =
    let l : Leaves table site wanted plan last = (launch_leaves table site wanted plan last steps whole can small keeps e).0 in
    let launch' : Launch = record { calls = table; site = site; creds = l.creds; stack = l.stack; table = plan } in
    let means = read_means settings table refusing wanted.programs l.stack l.read meant in
    let plain = meant_plain settings table refusing l.stack means in
    let is : IsLaunched launch' = record {
      calls_once = once_in table whole.sound;
      calls_of_abi = of_abi_in table whole.sound;
      one_cap = one_cap_in table whole.sound;
      one_kernel = (whole.kernel, whole.by_kernel);
      families_once = whole.sound.families.once.by_number;
      calls_in_range = range_in table whole.sound;
      arch = arch;
      real = l.as_launched.real;
      saved = l.as_launched.saved;
      real_gid = l.as_launched.real_gid;
      saved_gid = l.as_launched.saved_gid;
      full = l.as_launched.full;
      ambient_inheritable = l.as_launched.ambient_inheritable;
      ambient_permitted = l.as_launched.ambient_permitted;
      inheritable_bounding = l.as_launched.inheritable_bounding;
      inheritable_effective = inherits_effective table site wanted plan last whole l;
      root = l.as_launched.root;
      no_ring = l.as_launched.no_ring;
      rooted = begins plan can.begins_at_root;
      ordered = ascending_is_ordered plan can.places_ascend;
      plain = plain;
      chosen = settings_choose launch' settings arch (archs_differ table whole.sound) means plain;
    } in
    let first_is : first_of last ≡ record { creds = l.creds; stack = l.stack; namespace = l.namespace; user = 1; alive = true } = first_of_alone table site wanted plan last l in
    let own : of_number last.namespaces (first_of last).namespace ≡ Some (owned_by_first (map plain_mount plan)) = ap (λ p. of_number last.namespaces p.namespace) first_is ∙ l.own in
    let space : namespace_of last (first_of last).namespace ≡ owned_by_first (map plain_mount plan) = ap namespace_or own in
    let held : mounts_of last (first_of last).namespace ≡ map plain_mount plan = ap (λ (n : MountNamespace). n.table) space in
    record {
      alone = l.alone ∙ ap (λ p. p ∷ []) (sym first_is);
      lives = ap (λ p. p.alive) first_is;
      user = ap (λ p. p.user) first_is;
      home = ap (λ (n : MountNamespace). n.owner) space;
      no_users = l.no_users;
      own = own ∙ ap (λ (n : MountNamespace). Some n) (sym space);
      plain = subst ArePlainMounts (sym held) (are_plain plan);
      launched = subst IsLaunched (sym l.is) is;
    }
