-- Filters of settings look at no words of execve(2), of the calls that mount, and of those that set ids or capabilities.
use Rattle.std.proofs.Common.{◌≡◌, ℕ, Bool, true, false, cond, codes, List, [], ◌∷◌, Option, Some, None, refl, ap, ◌∙◌, sym, arith, eqb}
use Rattle.std.proofs.Common.{inl, inr}
use Rattle.std.specs.Prelude.{◌||◌, ◌&&◌}
use Rattle.std.specs.List.{AllByRecursion}
use Rattle.std.specs.Option.{option_map_or}
use Rattle.std.specs.Str.{bytes_eq}
use Rattle.std.proofs.lemmas.Bool.{eqb-true, eq-eqb}
use Rattle.launcher.specs.bpf_code.declared.machine.Insn.{Insn}
use Rattle.launcher.specs.bpf_code.declared.machine.CallData.{CallData}
use Rattle.launcher.specs.bpf_code.declared.decision.Decision.TheVariants as decision
use Rattle.launcher.specs.bpf_code.Meaning.{IsCallData}
use Rattle.launcher.specs.bpf_code.Stack.{answer_of, decision_of}
use Rattle.launcher.specs.call_table.call_names.Known.{known_call}
use Rattle.launcher.specs.call_table.declared.call_names.rule.Argument.TheVariants.{Second, Third}
use Rattle.launcher.specs.call_table.declared.call_names.rule.CallRule.TheVariants as known
use Rattle.launcher.specs.call_rules.Action.{word_of}
use Rattle.launcher.specs.call_rules.declared.actions.Action.TheVariants.{KillProcess, Errno, Allow}
use Rattle.launcher.specs.unit_names.declared.version.Version.{Version}
use Rattle.launcher.specs.call_table.declared.listed.CallLine.{CallLine}
use Rattle.launcher.specs.call_table.Table as calls
use Rattle.launcher.specs.call_table.Lookups.{numbered}
use Rattle.launcher.specs.filter_settings.declared.filter_rules.mentions.FamilyList.{FamilyList}
use Rattle.launcher.specs.filter_settings.declared.filter_rules.personality.Domain.{Domain}
use Rattle.launcher.specs.filter_settings.declared.filter_rules.names.FilterName.{FilterName}
use Rattle.launcher.specs.filter_settings.declared.filter_rules.names.FilterName.TheVariants as filter
use Rattle.launcher.specs.filter_settings.declared.filter_rules.namespace_types.NamespaceTypes.{NamespaceTypes}
use Rattle.launcher.specs.filter_settings.declared.filter_rules.settings.FilterSettings.{FilterSettings}
use Rattle.launcher.specs.filter_settings.filter_rules.Actions.{unless_refused, low, has_bits}
use Rattle.launcher.specs.filter_settings.filter_rules.Families.{refuses_family}
use Rattle.launcher.specs.filter_settings.filter_rules.Mapping.{refuses_mapping}
use Rattle.launcher.specs.filter_settings.filter_rules.Namespaces.{refuses_namespace, clone_newtime, namespace_action}
use Rattle.launcher.specs.filter_settings.filter_rules.Personality.{refuses_personality}
use Rattle.launcher.specs.filter_settings.filter_rules.Realtime.{refuses_policy}
use Rattle.launcher.specs.filter_settings.filter_rules.Suid.{refuses_mode, sets_id_bit, suid_action}
use Rattle.launcher.specs.filter_settings.filter_rules.Wanted.{named_action, unnamed_action, wanted_action}
use Rattle.launcher.specs.kernel_model.kernel_calls.Rules.{rule_of}
use Rattle.launcher.specs.kernel_model.declared.kernel_calls.rule.Rule.{Rule}
use Rattle.launcher.specs.kernel_model.declared.kernel_calls.rule.Rule.TheVariants.{Known}
use Rattle.launcher.specs.kernel_laws.FirstChoice.{Means}
use Rattle.launcher.specs.kernel_laws.Launched.{Launch, data_at}
use Rattle.launcher.proofs.OfKernelLaws.FilterChoices.{HasRules, with_name, rule_named, rules_named, creat_rules, open_rules, openat_rules, fchmodat2_rules}
use Rattle.launcher.proofs.OfKernelLaws.Filters.{HasRule, has_rule}
use Rattle.launcher.proofs.OfKernelLaws.Programs.{stack_passes}
use Rattle.kernel_ways.specs.Launching.{SettingsPassAlike}
use Rattle.kernel_ways.specs.Offers.{is_unlooked}
use Rattle.kernel_ways.specs.Ways.{CallAt}
use Rattle.launcher.proofs.OfKernelLaws.SettingsChoose.{at_line, at_other, is_there, same_abi}

module _ (line : CallLine) (rule : Rule) (is : rule_of line ≡ Some rule) (unlooked : is_unlooked rule ≡ true) where
  -- such a line has no name of another rule
  no_name : (name : List ℕ) (own : Rule) → rule_of (with_name line name) ≡ Some own → is_unlooked own ≡ false
      → bytes_eq line.name name ≡ false
  no_name name own named off = by (bytes_eq line.name name) refl
    where
      by : (b : Bool) → bytes_eq line.name name ≡ b → b ≡ false
      by false e = refl
      by true e = let clash : false ≡ true = sym off ∙ ap is_unlooked (rule_named line rule is name own named e) ∙ unlooked in cc

  -- nor one that has a rule of each kernel
  no_rules : (name : List ℕ) (one other : Rule) → HasRules line name one other → is_unlooked one ≡ false → is_unlooked other ≡ false
      → bytes_eq line.name name ≡ false
  no_rules name one other rules off off' = by (bytes_eq line.name name) refl
    where
      clash : (own : Rule) → is_unlooked own ≡ false → own ≡ rule → ⊥
      clash own none same = let both : false ≡ true = sym none ∙ ap is_unlooked same ∙ unlooked in cc

      by : (b : Bool) → bytes_eq line.name name ≡ b → b ≡ false
      by false e = refl
      by true e = elim (rules_named line rule is name one other rules e) [ inl same ↦ absurd (clash one off same) | inr same ↦ absurd (clash other off' same) ]

  family_free : (systemd : Option Version) (families : Option FamilyList) (input : CallData)
      → refuses_family systemd families line.name input ≡ false
  unfolding rule_of known_call
  family_free systemd families input = rw (no_name (codes "socket") (Known known.Socket) refl refl) refl

  mapping_free : (input : CallData) → refuses_mapping line.name input ≡ false
  unfolding rule_of known_call
  mapping_free input =
      rw (
        no_name (codes "mmap") (Known known.Map) refl refl,
        no_name (codes "mprotect") (Known known.Protect) refl refl,
        no_name (codes "pkey_mprotect") (Known known.Protect) refl refl,
        no_name (codes "shmat") (Known known.Attach) refl refl,
      ) refl

  policy_free : (systemd : Option Version) (input : CallData) → refuses_policy systemd line.name input ≡ false
  unfolding rule_of known_call
  policy_free systemd input = rw (no_name (codes "sched_setscheduler") (Known known.Schedule) refl refl) refl

  mode_free : (input : CallData) → refuses_mode line.name input ≡ false
  unfolding rule_of known_call
  mode_free input =
      rw (
        no_name (codes "chmod") (Known (known.SetMode Second)) refl refl,
        no_name (codes "fchmod") (Known (known.SetMode Second)) refl refl,
        no_name (codes "mkdir") (Known (known.SetMode Second)) refl refl,
        no_name (codes "mknod") (Known (known.SetMode Second)) refl refl,
        no_rules (codes "creat") (Known known.Create) (Known known.CreateWith) (creat_rules line) refl refl,
        no_name (codes "fchmodat") (Known (known.SetMode Third)) refl refl,
        no_name (codes "mkdirat") (Known (known.SetMode Third)) refl refl,
        no_name (codes "mknodat") (Known (known.SetMode Third)) refl refl,
        no_rules (codes "open") (Known (known.Open Second)) (Known (known.OpenWith Second)) (open_rules line) refl refl,
        no_rules (codes "openat") (Known (known.Open Third)) (Known (known.OpenWith Third)) (openat_rules line) refl refl,
      ) refl

  namespace_free : (types : NamespaceTypes) (input : CallData) → refuses_namespace types line.name input ≡ false
  unfolding rule_of known_call
  namespace_free types input =
      rw (
        no_name (codes "unshare") (Known known.Unshare) refl refl,
        no_name (codes "clone") (Known known.Clone) refl refl,
        no_name (codes "setns") (Known known.Enter) refl refl,
      ) refl

  -- with a version of systemd, which refuses further calls
  suid_alike : (systemd : Option Version) (one other : CallData) → suid_action systemd line.name one ≡ suid_action systemd line.name other
  unfolding rule_of known_call
  suid_alike None one other = ap (λ b. unless_refused 1 b) (mode_free one ∙ sym (mode_free other))
  suid_alike (Some version) one other = at one ∙ sym (at other)
    where
      at : (input : CallData) → suid_action (Some version) line.name input
          ≡ cond (bytes_eq line.name (codes "openat2")) (Errno 38) Allow
      at input =
          ap (λ b. cond (bytes_eq line.name (codes "openat2")) (Errno 38)
          (unless_refused 1 (refuses_mode line.name input || (b && sets_id_bit (low input 2)))))
          (no_rules (codes "fchmodat2") (Known (known.SetMode Third)) (Known (known.SetMode Third)) (fchmodat2_rules line) refl refl)
          ∙ ap (λ b. cond (bytes_eq line.name (codes "openat2")) (Errno 38) (unless_refused 1 (b || false))) (mode_free input)

  space_alike : (systemd : Option Version) (types : NamespaceTypes) (one other : CallData)
      → namespace_action systemd types line.name one ≡ namespace_action systemd types line.name other
  unfolding rule_of known_call
  space_alike None types one other = ap (λ b. unless_refused 1 b) (namespace_free types one ∙ sym (namespace_free types other))
  space_alike (Some version) types one other = at one ∙ sym (at other)
    where
      at : (input : CallData) → namespace_action (Some version) types line.name input
          ≡ cond (bytes_eq line.name (codes "clone3")) (Errno 38) Allow
      at input =
          ap (λ b. cond (bytes_eq line.name (codes "clone3")) (Errno 38)
          (unless_refused 1 (refuses_namespace types line.name input || (b && has_bits (low input 0) clone_newtime))))
          (no_name (codes "clone") (Known known.Clone) refl refl)
          ∙ ap (λ b. cond (bytes_eq line.name (codes "clone3")) (Errno 38) (unless_refused 1 (b || false))) (namespace_free types input)

  personality_free : (systemd : Option Version) (domain : Domain) (input : CallData)
      → refuses_personality systemd domain line.name input ≡ false
  unfolding rule_of known_call
  personality_free systemd domain input = rw (no_name (codes "personality") (Known known.Personality) refl refl) refl

  -- what a filter does goes by the name
  named_alike : (own : FilterName) (settings : FilterSettings) (table : calls.Table) (one other : CallData)
      → named_action own settings table line.name one ≡ named_action own settings table line.name other
  named_alike filter.Families settings table one other = ap (λ b. unless_refused 97 b)
      (family_free settings.systemd settings.families one ∙ sym (family_free settings.systemd settings.families other))
  named_alike filter.MemoryDenyWriteExecute settings table one other =
      ap (λ b. unless_refused 1 b) (mapping_free one ∙ sym (mapping_free other))
  named_alike filter.Realtime settings table one other = ap (λ b. unless_refused 1 b)
      (policy_free settings.systemd one ∙ sym (policy_free settings.systemd other))
  named_alike filter.Suid settings table one other = suid_alike settings.systemd one other
  named_alike filter.Namespaces settings table one other = space_alike settings.systemd settings.namespaces one other
  named_alike filter.Tunables settings table one other = refl
  named_alike filter.Personality settings table one other = ap (λ b. unless_refused 1 b)
      (personality_free settings.systemd settings.domain one ∙ sym (personality_free settings.systemd settings.domain other))
  named_alike filter.Archs settings table one other = refl
  named_alike filter.Hostname settings table one other = refl
  named_alike filter.Modules settings table one other = refl
  named_alike filter.Logs settings table one other = refl
  named_alike filter.Clock settings table one other = refl
  named_alike filter.Devices settings table one other = refl
  named_alike filter.Calls settings table one other = refl

pub settings_pass_alike : SettingsPassAlike
settings_pass_alike launch settings arch differ each plain nr rule args other few fit fit' at unlooked p =
    let one : IsCallData (data_at launch nr.abi nr.nr args) = record { nr = few.number; arch = arch nr.abi; ip = omega arith; count = fit.count; args = fit.each } in
    let two : IsCallData (data_at launch nr.abi nr.nr other) = record { nr = few.number; arch = arch nr.abi; ip = omega arith; count = fit'.count; args = fit'.each } in
    let h = has_rule (calls.calls_in launch.calls nr.abi) nr.nr rule at in
    stack_passes launch.stack (data_at launch nr.abi nr.nr args) (data_at launch nr.abi nr.nr other)
    (plain (data_at launch nr.abi nr.nr args) one) (plain (data_at launch nr.abi nr.nr other) two)
    (all_of one two h launch.stack each) p
  where
    own_line : IsCallData (data_at launch nr.abi nr.nr args) → IsCallData (data_at launch nr.abi nr.nr other)
        → HasRule (calls.calls_in launch.calls nr.abi) nr.nr rule → (code : List Insn) (m : Means settings launch.calls code)
        → nr.abi ≡ m.abi
        → decision_of (answer_of code (data_at launch nr.abi nr.nr args)) ≡ decision.Pass
        → decision_of (answer_of code (data_at launch nr.abi nr.nr other)) ≡ decision.Pass
    own_line one two h code m same e =
        let before = m.answers (data_at launch nr.abi nr.nr args) one ∙ ap word_of (ap (λ own. wanted_action m.filter settings launch.calls own (data_at launch nr.abi nr.nr args)) (sym same) ∙ at_line settings launch m.filter nr.abi nr.nr args h.line h.found) in
        let after = m.answers (data_at launch nr.abi nr.nr other) two ∙ ap word_of (ap (λ own. wanted_action m.filter settings launch.calls own (data_at launch nr.abi nr.nr other)) (sym same) ∙ at_line settings launch m.filter nr.abi nr.nr other h.line h.found) in
        let alike = named_alike h.line rule h.is unlooked m.filter settings launch.calls (data_at launch nr.abi nr.nr args) (data_at launch nr.abi nr.nr other) in
        ap decision_of after ∙ ap (λ a. decision_of (word_of a)) (sym alike) ∙ ap decision_of (sym before) ∙ e

    either : IsCallData (data_at launch nr.abi nr.nr args) → IsCallData (data_at launch nr.abi nr.nr other)
        → HasRule (calls.calls_in launch.calls nr.abi) nr.nr rule → (code : List Insn) (m : Means settings launch.calls code)
        → (b : Bool) → eqb (calls.arch_of launch.calls nr.abi) (calls.arch_of launch.calls m.abi) ≡ b
        → decision_of (answer_of code (data_at launch nr.abi nr.nr args)) ≡ decision.Pass
        → decision_of (answer_of code (data_at launch nr.abi nr.nr other)) ≡ decision.Pass
    either one two h code m true same e =
        let own = is_there launch.calls nr.abi nr.nr h.line h.found (calls.abi_at launch.calls nr.abi) refl in
        let archs : own.0.arch ≡ m.found.arch = ap (λ (o : Option calls.Abi). option_map_or (λ found. found.arch) o 0) (sym own.1) ∙ eqb-true (calls.arch_of launch.calls nr.abi) (calls.arch_of launch.calls m.abi) same ∙ ap (λ (o : Option calls.Abi). option_map_or (λ found. found.arch) o 0) m.there in
        own_line one two h code m
        (same_abi (calls.native launch.calls) launch.calls.second differ nr.abi m.abi own.0 m.found own.1 m.there archs) e
    either one two h code m false differs e =
        let before = m.answers (data_at launch nr.abi nr.nr args) one ∙ ap word_of (at_other settings launch m.filter m.abi nr.abi nr.nr args differs) in
        let after = m.answers (data_at launch nr.abi nr.nr other) two ∙ ap word_of (at_other settings launch m.filter m.abi nr.abi nr.nr other differs) in
        ap decision_of (after ∙ sym before) ∙ e

    all_of : IsCallData (data_at launch nr.abi nr.nr args) → IsCallData (data_at launch nr.abi nr.nr other)
        → HasRule (calls.calls_in launch.calls nr.abi) nr.nr rule → (programs : List (List Insn))
        → AllByRecursion (Means settings launch.calls) programs
        → AllByRecursion (λ (code : List Insn). decision_of (answer_of code (data_at launch nr.abi nr.nr args)) ≡ decision.Pass
        → decision_of (answer_of code (data_at launch nr.abi nr.nr other)) ≡ decision.Pass) programs
    all_of one two h [] each = tt
    all_of one two h (code ∷ programs) each = (
      λ e. either one two h code each.0 (eqb (calls.arch_of launch.calls nr.abi) (calls.arch_of launch.calls each.0.abi)) refl e,
      all_of one two h programs each.1,
    )
