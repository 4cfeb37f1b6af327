-- The rules of each filter do what the settings say, and are small.
use Rattle.std.proofs.Common.{◌≡◌, ℕ, ◌*◌, ◌≤◌, false, Option, Some, None, List, [], ◌∷◌, length, refl, sym, ap, ◌∙◌, arith, subst, codes}
use Rattle.std.specs.Prelude.{◌||◌, cond, eqb}
use Rattle.std.specs.Option.{option_map_or}
use Rattle.std.specs.List.{All, sum_by}
use Rattle.std.specs.Str.{bytes_eq}
use Rattle.std.proofs.lemmas.List.Sums.{sum_by-le}
use Rattle.std.proofs.lemmas.Bool.Decides.{same_from_decides, Decides-like}
use Rattle.std.proofs.lemmas.Slice.Eq.{bytes_eq-Decides}
use Rattle.std.proofs.Math.Nat.{mul-le-mul, le_trans, le_refl}
use Rattle.call_rules.specs.bpf_code.declared.machine.CallData.{CallData}
use Rattle.call_rules.specs.declared.rules.CallRule.{CallRule}
use Rattle.call_rules.specs.declared.rules.RuleSet.{RuleSet}
use Rattle.call_table.specs.Table.{Table, arch_of, calls_in}
use Rattle.call_table.specs.Facts.{AreLines}
use Rattle.call_table.specs.declared.listed.CallLine.{CallLine}
use Rattle.filter_settings.specs.declared.filter_rules.choice.Choice.{Choice}
use Rattle.filter_settings.specs.declared.filter_rules.settings.FilterSettings.{FilterSettings}
use Rattle.filter_settings.specs.declared.filter_rules.names.FilterName.{FilterName}
use Rattle.filter_settings.specs.declared.filter_rules.names.FilterName.TheVariants.{Families, MemoryDenyWriteExecute, Realtime, Suid}
use Rattle.filter_settings.specs.declared.filter_rules.names.FilterName.TheVariants.{Namespaces, Tunables, Hostname, Modules, Logs, Clock, Devices}
use Rattle.filter_settings.specs.declared.filter_rules.names.FilterName.TheVariants.{Personality, Calls, Archs}
use Rattle.filter_settings.specs.filter_rules.Actions.{is_one_of}
use Rattle.filter_settings.specs.filter_rules.Blocked.{is_blocked, tunables_words, hostname_words, modules_words, logs_words, clock_words}
use Rattle.filter_settings.specs.filter_rules.Blocked.{devices_words}
use Rattle.filter_settings.specs.filter_rules.Choices.{choice_action}
use Rattle.call_rules.specs.Sizes.{case_count, test_count, wide_count, wide_len}
use Rattle.filter_settings.specs.filter_rules.Costs.{HasShortCases, costs, most_costs}
use Rattle.filter_settings.specs.filter_rules.Covers.{covers, covers_by}
use Rattle.filter_settings.specs.filter_rules.Known.{HasKnownFamilies}
use Rattle.filter_settings.specs.filter_rules.Order.{Ascends}
use Rattle.filter_settings.specs.filter_rules.Rules.{choice_of, AreRulesOf}
use Rattle.filter_settings.specs.filter_rules.Wanted.{named_action, unnamed_action, other_action}
use Rattle.filter_settings.proofs.Walked.{rules_of, decides}
use Rattle.filter_settings.proofs.Suited.{AreSmall, all_rules, few_tests, wide_bound, case_bound, test_bound, short_cases}
use Rattle.filter_settings.proofs.Counted.{AreAmong, rules_le_calls, rules_le_names}
use Rattle.filter_settings.proofs.SuitedSimple.{mapping_means, mapping_small, mapping_names, mapping_among, length_mapping_names}
use Rattle.filter_settings.proofs.SuitedSimple.{realtime_means, realtime_small, realtime_among, personality_means, personality_small}
use Rattle.filter_settings.proofs.SuitedSimple.{personality_among, blocked_means, blocked_small, blocked_among, calls_mean, calls_small}
use Rattle.filter_settings.proofs.SuitedModes.{suid_means_in, suid_small_in, suid_names, suid_among_in, length_suid_names}
use Rattle.filter_settings.proofs.SuitedNamespaces.{namespaces_means_in, namespaces_small_in, namespaces_names, namespaces_among_in}
use Rattle.filter_settings.proofs.SuitedNamespaces.{length_namespaces_names}
use Rattle.filter_settings.proofs.SuitedFamilies.{families_mean, families_small, families_among}

bytes_swap : (xs ys : List ℕ) → bytes_eq xs ys ≡ bytes_eq ys xs
bytes_swap xs ys = same_from_decides (bytes_eq xs ys) (bytes_eq ys xs) (bytes_eq-Decides xs ys)
    (Decides-like (bytes_eq ys xs) sym sym (bytes_eq-Decides ys xs))

-- the rules of a filter, from calls in ascending order
abbrev pub set_of : FilterName → FilterSettings → Table → ℕ → List CallLine → RuleSet
set_of filter settings table abi ordered = record { arch = arch_of table abi; calls = rules_of (choice_of filter settings table) ordered; rest = unnamed_action filter settings; other = other_action table.second }

-- so many calls, cases for each and tests for each of these
made : (filter : FilterName) (settings : FilterSettings) (table : Table) (abi : ℕ) (ordered : List CallLine) (calls cases tests wides : ℕ)
    → Ascends (calls_in table abi) ordered →
    ((name : List ℕ) (input : CallData) → option_map_or (choice_action input) (choice_of filter settings table name)
    (unnamed_action filter settings) ≡ named_action filter settings table name input) →
    AreSmall cases tests wides (choice_of filter settings table) → length (rules_of (choice_of filter settings table) ordered) ≤ calls →
    calls ≤ 512 → calls * cases ≤ 128 → tests ≤ 2 → calls * wides ≤ 16
    → most_costs filter ≡ costs calls (calls * cases) (calls * (cases * tests)) (calls * wides)
    → AreRulesOf filter settings table abi (set_of filter settings table abi ordered)
made filter settings table abi ordered calls cases tests wides a means small few most_calls most_cases most_tests most_wides is =
    let choose : List ℕ → Option Choice = choice_of filter settings table in
    let rules : List CallRule = rules_of choose ordered in
    let cases_fit : case_count (set_of filter settings table abi ordered) ≤ calls * cases =
    le_trans (sum_by-le (λ call. length call.cases) cases rules (all_rules (λ call. length call.cases ≤ cases) cases tests wides choose small (case_bound cases tests wides) ordered)) (mul-le-mul few (le_refl cases)) in
    let tests_fit : test_count (set_of filter settings table abi ordered) ≤ calls * (cases * tests) =
    le_trans (sum_by-le (λ call. sum_by (λ case. length case.tests) call.cases) (cases * tests) rules (all_rules (λ call. sum_by (λ case. length case.tests) call.cases ≤ cases * tests) cases tests wides choose small (test_bound cases tests wides) ordered)) (mul-le-mul few (le_refl (cases * tests))) in
    let wides_fit : wide_count (set_of filter settings table abi ordered) ≤ calls * wides =
    le_trans (sum_by-le (λ call. wide_len call.wide) wides rules (all_rules (λ call. wide_len call.wide ≤ wides) cases tests wides choose small (wide_bound cases tests wides) ordered)) (mul-le-mul few (le_refl wides)) in
    record {
      wanted = λ input. decides (arch_of table abi) (calls_in table abi) ordered choose
          (λ name. named_action filter settings table name input) (unnamed_action filter settings) (other_action table.second) input a
          (λ name. means name input);
      compiled = record { calls = le_trans few most_calls; cases = le_trans cases_fit most_cases; tests = all_rules (λ call. All (λ case. length case.tests ≤ 2) call.cases) cases tests wides choose small (few_tests cases tests wides most_tests) ordered; wides = le_trans wides_fit most_wides };
      within = record {
        calls = subst (λ most. length rules ≤ most.calls) (sym is) few;
        cases = subst (λ most. case_count (set_of filter settings table abi ordered) ≤ most.cases) (sym is) cases_fit;
        tests = subst (λ most. test_count (set_of filter settings table abi ordered) ≤ most.tests) (sym is) tests_fit;
        wides = subst (λ most. wide_count (set_of filter settings table abi ordered) ≤ most.wides) (sym is) wides_fit;
      };
      short = all_rules HasShortCases cases tests wides choose small (short_cases cases tests wides) ordered;
    }

-- the filter that refuses the second ABI has no rule for any call
no_rules : (settings : FilterSettings) (table : Table) (ordered : List CallLine)
    → length (rules_of (choice_of Archs settings table) ordered) ≤ 0
no_rules settings table [] = omega arith
no_rules settings table (call ∷ ordered) = no_rules settings table ordered

-- a word that is not a group covers the call that it names
covers_itself : (table : Table) (byte : ℕ) (rest name : List ℕ) → eqb byte 64 ≡ false
    → covers table (byte ∷ rest) name ≡ bytes_eq name (byte ∷ rest)
unfolding covers
covers_itself table byte rest name e = ap (λ b. covers_by table (byte ∷ rest) name (cond b (Some rest) None)) e
    ∙ bytes_swap (byte ∷ rest) name

hostname_named : (table : Table) (name : List ℕ) → is_blocked table hostname_words name ≡ is_one_of name hostname_words
hostname_named table name =
    ap (λ b. b || (covers table (codes "setdomainname") name || false)) (covers_itself table 115 (codes "ethostname") name refl)
    ∙ ap (λ b. bytes_eq name (codes "sethostname") || (b || false)) (covers_itself table 115 (codes "etdomainname") name refl)

tunables_named : (table : Table) (name : List ℕ) → is_blocked table tunables_words name ≡ is_one_of name tunables_words
tunables_named table name = ap (λ b. b || false) (covers_itself table 95 (codes "sysctl") name refl)

logs_named : (table : Table) (name : List ℕ) → is_blocked table logs_words name ≡ is_one_of name logs_words
logs_named table name = ap (λ b. b || false) (covers_itself table 115 (codes "yslog") name refl)

module _ (settings : FilterSettings) (table : Table) (abi : ℕ) (ordered : List CallLine) (a : Ascends (calls_in table abi) ordered) (lines : AreLines 512 (calls_in table abi)) where
  few_calls : (choose : List ℕ → Option Choice) → length (rules_of choose ordered) ≤ 512
  few_calls choose = le_trans (rules_le_calls choose (calls_in table abi) ordered a) lines.few

  few_names : (choose : List ℕ → Option Choice) (names : List (List ℕ)) → AreAmong names choose
      → length (rules_of choose ordered) ≤ length names
  few_names choose names among = rules_le_names choose names (calls_in table abi) ordered among lines.once a

  few_named : (choose : List ℕ → Option Choice) (names : List (List ℕ)) (count : ℕ) → length names ≡ count → AreAmong names choose
      → length (rules_of choose ordered) ≤ count
  few_named choose names count e among = subst (λ n. length (rules_of choose ordered) ≤ n) e (few_names choose names among)

  pub are_rules : (filter : FilterName) → AreLines 128 table.families → HasKnownFamilies table settings
      → AreRulesOf filter settings table abi (set_of filter settings table abi ordered)
  are_rules Families families known = made Families settings table abi ordered 1 128 1 1 a (families_mean settings.systemd table settings.families known)
      (families_small settings.systemd table settings.families families.few)
      (few_names (choice_of Families settings table) (codes "socket" ∷ []) (families_among settings.systemd table settings.families)) (omega arith)
      (omega arith) (omega arith) (omega arith) refl
  are_rules MemoryDenyWriteExecute families known = made MemoryDenyWriteExecute settings table abi ordered 4 1 1 0 a mapping_means
      mapping_small (few_named (choice_of MemoryDenyWriteExecute settings table) mapping_names 4 length_mapping_names mapping_among)
      (omega arith) (omega arith) (omega arith) (omega arith) refl
  are_rules Realtime families known = made Realtime settings table abi ordered 1 3 1 1 a (realtime_means settings.systemd)
      (realtime_small settings.systemd)
      (few_names (choice_of Realtime settings table) (codes "sched_setscheduler" ∷ []) (realtime_among settings.systemd)) (omega arith) (omega arith)
      (omega arith) (omega arith) refl
  are_rules Suid families known = made Suid settings table abi ordered 12 2 2 0 a (suid_means_in settings.systemd)
      (suid_small_in settings.systemd)
      (few_named (choice_of Suid settings table) suid_names 12 length_suid_names (suid_among_in settings.systemd)) (omega arith)
      (omega arith) (omega arith) (omega arith) refl
  are_rules Namespaces families known = made Namespaces settings table abi ordered 4 8 1 0 a
      (namespaces_means_in settings.systemd settings.namespaces) (namespaces_small_in settings.systemd settings.namespaces)
      (few_named (choice_of Namespaces settings table) namespaces_names 4 length_namespaces_names
      (namespaces_among_in settings.systemd settings.namespaces))
      (omega arith) (omega arith) (omega arith) (omega arith) refl
  are_rules Tunables families known = made Tunables settings table abi ordered 1 0 1 0 a (blocked_means table tunables_words)
      (blocked_small table tunables_words)
      (few_names (choice_of Tunables settings table) tunables_words (blocked_among table tunables_words (tunables_named table)))
      (omega arith) (omega arith) (omega arith) (omega arith) refl
  are_rules Hostname families known = made Hostname settings table abi ordered 2 0 1 0 a (blocked_means table hostname_words)
      (blocked_small table hostname_words)
      (few_names (choice_of Hostname settings table) hostname_words (blocked_among table hostname_words (hostname_named table)))
      (omega arith) (omega arith) (omega arith) (omega arith) refl
  are_rules Modules families known = made Modules settings table abi ordered 512 0 1 0 a (blocked_means table modules_words)
      (blocked_small table modules_words) (few_calls (choice_of Modules settings table)) (omega arith) (omega arith) (omega arith) (omega arith) refl
  are_rules Logs families known = made Logs settings table abi ordered 1 0 1 0 a (blocked_means table logs_words)
      (blocked_small table logs_words)
      (few_names (choice_of Logs settings table) logs_words (blocked_among table logs_words (logs_named table))) (omega arith)
      (omega arith) (omega arith) (omega arith) refl
  are_rules Clock families known = made Clock settings table abi ordered 512 0 1 0 a (blocked_means table clock_words)
      (blocked_small table clock_words) (few_calls (choice_of Clock settings table)) (omega arith) (omega arith) (omega arith) (omega arith) refl
  are_rules Devices families known = made Devices settings table abi ordered 512 0 1 0 a (blocked_means table devices_words)
      (blocked_small table devices_words) (few_calls (choice_of Devices settings table)) (omega arith) (omega arith) (omega arith) (omega arith) refl
  are_rules Personality families known = made Personality settings table abi ordered 1 2 1 1 a (personality_means settings.systemd settings.domain)
      (personality_small settings.systemd settings.domain)
      (few_names (choice_of Personality settings table) (codes "personality" ∷ []) (personality_among settings.systemd settings.domain)) (omega arith) (omega arith)
      (omega arith) (omega arith) refl
  are_rules Calls families known = made Calls settings table abi ordered 512 0 1 0 a
      (calls_mean table settings.calls settings.default_action) (calls_small table settings.calls settings.default_action)
      (few_calls (choice_of Calls settings table)) (omega arith) (omega arith) (omega arith) (omega arith) refl
  are_rules Archs families known = made Archs settings table abi ordered 0 0 1 0 a (λ name input. refl) (λ name. tt)
      (no_rules settings table ordered) (omega arith) (omega arith) (omega arith) (omega arith) refl
