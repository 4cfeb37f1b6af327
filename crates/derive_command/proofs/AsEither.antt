-- Programs for three lists of calls, of which the first decides each name as one of the two others.
use Rattle.std.proofs.Common.{◌≡◌, ◌⊎◌, inl, inr, ℕ, zero, suc, Bool, true, false, cond, Option, Some, None, List, [], ◌∷◌, filter, map}
use Rattle.std.proofs.Common.{length, refl, ap, ◌∙◌, sym, subst, arith}
use Rattle.std.specs.Prelude.{◌==◌, IfSome, slice_get}
use Rattle.std.specs.List.{AllByRecursion}
use Rattle.std.specs.Option.{option_map_or, option_to_list}
use Rattle.std.proofs.lemmas.Bool.Decides.{nat_tests}
use Rattle.asked_service.proofs.OfBpfCode.Stacks.{answer_is}
use Rattle.asked_service.specs.bpf_code.Meaning.{IsCallData}
use Rattle.asked_service.specs.bpf_code.declared.machine.CallData.{CallData}
use Rattle.asked_service.specs.bpf_code.declared.machine.Insn.{Insn}
use Rattle.asked_service.specs.call_rules.Action.{case_action, word_of}
use Rattle.asked_service.specs.call_rules.declared.actions.Action.{Action}
use Rattle.asked_service.specs.call_table.Facts.{IsTable}
use Rattle.asked_service.specs.call_table.Lookups.{numbered}
use Rattle.asked_service.specs.call_table.Table.{Abi, Table, arch_of, calls_in, native}
use Rattle.asked_service.specs.call_table.declared.listed.CallLine.{CallLine}
use Rattle.asked_service.specs.exec_settings.AreSettings.{HasWantedRules}
use Rattle.asked_service.specs.filter_settings.filter_rules.Calls.{call_action}
use Rattle.asked_service.specs.filter_settings.filter_rules.Installed.{installed, is_installed, place_of}
use Rattle.asked_service.specs.filter_settings.filter_rules.Names.{Place, all_programs}
use Rattle.asked_service.specs.filter_settings.filter_rules.Wanted.{is_on, named_action, other_action, unnamed_action, wanted_action}
use Rattle.asked_service.specs.filter_settings.declared.filter_rules.installed.Filter.{Filter}
use Rattle.asked_service.specs.filter_settings.declared.filter_rules.mentions.CallList.{CallList}
use Rattle.asked_service.specs.filter_settings.declared.filter_rules.mentions.Mention.{Mention}
use Rattle.asked_service.specs.filter_settings.declared.filter_rules.mentions.Mode.TheVariants.{Allow}
use Rattle.asked_service.specs.filter_settings.declared.filter_rules.names.FilterName.{FilterName}
use Rattle.asked_service.specs.filter_settings.declared.filter_rules.names.FilterName.TheVariants.{Families, MemoryDenyWriteExecute}
use Rattle.asked_service.specs.filter_settings.declared.filter_rules.names.FilterName.TheVariants.{Realtime, Suid, Namespaces, Tunables, Hostname}
use Rattle.asked_service.specs.filter_settings.declared.filter_rules.names.FilterName.TheVariants.{Modules, Logs, Clock, Devices}
use Rattle.asked_service.specs.filter_settings.declared.filter_rules.names.FilterName.TheVariants.{Personality, Calls, Archs}
use Rattle.asked_service.specs.filter_settings.declared.filter_rules.settings.FilterSettings.{FilterSettings}
use Rattle.asked_service.specs.launcher.Matching.{AreMatching}
use Rattle.asked_service.specs.unit_names.Versions.{is_257}
use Rattle.asked_service.specs.unit_names.declared.version.Version.{Version}
use Rattle.asked_service.proofs.OfLauncher.TwoAbis.{IsThere, archs_differ, filters_there}
use Rattle.derive_command.specs.trace_profile.allow_laws.Either.{AnswerSame, AnswersAsEither}
use Rattle.derive_command.proofs.SameButCalls.{with_calls}

-- a list that allows what these words cover
abbrev pub allowing : Option Version → List Mention → CallList
allowing systemd mentions = record { mode = Allow; mentions = mentions; hides_unknown = is_257 systemd }

filter_agree : {X : Type 0} (p q : X → Bool) → ((x : X) → p x ≡ q x) → (xs : List X) → filter p xs ≡ filter q xs
filter_agree p q h [] = refl
filter_agree p q h (x ∷ xs) = ap (λ b. cond b (x ∷ filter p xs) (filter p xs)) (h x)
    ∙ ap (λ rest. cond (q x) (x ∷ rest) rest) (filter_agree p q h xs)

module _ (table : Table) (base : FilterSettings) where
  abbrev pub with_list : List Mention → FilterSettings
  with_list mentions = with_calls base (Some (allowing base.systemd mentions))

  abbrev pub gives : List Mention → List ℕ → Action
  gives mentions name = call_action table (Some (allowing base.systemd mentions)) base.default_action name

  module _ (one other : List Mention) where
    on_same : (filter : FilterName) → is_on (with_list one) filter ≡ is_on (with_list other) filter
    on_same Families = refl
    on_same MemoryDenyWriteExecute = refl
    on_same Realtime = refl
    on_same Suid = refl
    on_same Namespaces = refl
    on_same Tunables = refl
    on_same Hostname = refl
    on_same Modules = refl
    on_same Logs = refl
    on_same Clock = refl
    on_same Devices = refl
    on_same Personality = refl
    on_same Calls = refl
    on_same Archs = refl

    -- the same filters are on
    pub installed_same : installed (with_list one) table ≡ installed (with_list other) table
    installed_same = filter_agree (is_installed (with_list one)) (is_installed (with_list other)) (λ place. on_same place.0)
        (all_programs table.second)

    unnamed_same : (filter : FilterName) → unnamed_action filter (with_list one) ≡ unnamed_action filter (with_list other)
    unnamed_same Families = refl
    unnamed_same MemoryDenyWriteExecute = refl
    unnamed_same Realtime = refl
    unnamed_same Suid = refl
    unnamed_same Namespaces = refl
    unnamed_same Tunables = refl
    unnamed_same Hostname = refl
    unnamed_same Modules = refl
    unnamed_same Logs = refl
    unnamed_same Clock = refl
    unnamed_same Devices = refl
    unnamed_same Personality = refl
    unnamed_same Calls = refl
    unnamed_same Archs = refl

    named_same : (name : List ℕ) (input : CallData) → gives one name ≡ gives other name → (filter : FilterName)
        → named_action filter (with_list one) table name input ≡ named_action filter (with_list other) table name input
    named_same name input same Families = refl
    named_same name input same MemoryDenyWriteExecute = refl
    named_same name input same Realtime = refl
    named_same name input same Suid = refl
    named_same name input same Namespaces = refl
    named_same name input same Tunables = refl
    named_same name input same Hostname = refl
    named_same name input same Modules = refl
    named_same name input same Logs = refl
    named_same name input same Clock = refl
    named_same name input same Devices = refl
    named_same name input same Personality = refl
    named_same name input same Calls = same
    named_same name input same Archs = refl

    module _ (input : CallData) (abi : ℕ) where
      -- every filter for the ABI does the same to the call
      abbrev pub SameAt : Type 0
      SameAt = (filter : FilterName) → wanted_action filter (with_list one) table abi input
          ≡ wanted_action filter (with_list other) table abi input

      abbrev by_line : FilterName → List Mention → Option CallLine → Action
      by_line filter mentions found = cond (input.arch == arch_of table abi)
          (option_map_or (λ (call : CallLine). named_action filter (with_list mentions) table call.name input) found
          (unnamed_action filter (with_list mentions))) (other_action table.second)

      same_unnamed : numbered input.nr (calls_in table abi) ≡ None → SameAt
      same_unnamed e filter = ap (by_line filter one) e ∙ ap
          (λ action. cond (input.arch == arch_of table abi) action (other_action table.second)) (unnamed_same filter)
          ∙ sym (ap (by_line filter other) e)

      same_named : (line : CallLine) → numbered input.nr (calls_in table abi) ≡ Some line → gives one line.name ≡ gives other line.name
          → SameAt
      same_named line e same filter =
          ap (by_line filter one) e ∙ ap (λ action. cond (input.arch == arch_of table abi) action (other_action table.second))
          (named_same line.name input same filter) ∙ sym (ap (by_line filter other) e)

      same_other : (input.arch == arch_of table abi) ≡ false → SameAt
      same_other e filter =
          ap (λ b. cond b (option_map_or (λ (call : CallLine). named_action filter (with_list one) table call.name input)
          (numbered input.nr (calls_in table abi)) (unnamed_action filter (with_list one))) (other_action table.second)) e
          ∙ sym (ap (λ b. cond b (option_map_or (λ (call : CallLine). named_action filter (with_list other) table call.name input)
          (numbered input.nr (calls_in table abi)) (unnamed_action filter (with_list other))) (other_action table.second)) e)

    -- for both ABIs
    abbrev pub SameBoth : CallData → Type 0
    SameBoth input = SameAt input 0 × SameAt input 1

    no_third : (o : Option Abi) (k : ℕ) (found : Abi) → slice_get (native table ∷ option_to_list o) (suc (suc k)) ≡ Some found → ⊥
    no_third None k found e = cc
    no_third (Some second) k found e = cc

    at_there : (input : CallData) → SameBoth input → (abi : ℕ) → IsThere table abi → SameAt input abi
    at_there input same zero there = same.0
    at_there input same (suc zero) there = same.1
    at_there input same (suc (suc k)) there = absurd (no_third table.second k there.0 there.1)

    same_name : (a c : FilterName) (b d : ℕ) → ◌≡◌ {A = Place} (a, b) (c, d) → a ≡ c
    same_name a c b d e = ap (λ (place : Place). place.0) e

    same_abi : (a c : FilterName) (b d : ℕ) → ◌≡◌ {A = Place} (a, b) (c, d) → b ≡ d
    same_abi a c b d e = ap (λ (place : Place). place.1) e

    heads : (a b : Place) (xs ys : List Place) → a ∷ xs ≡ b ∷ ys → a ≡ b
    heads a b xs ys e = cc

    tails : (a b : Place) (xs ys : List Place) → a ∷ xs ≡ b ∷ ys → xs ≡ ys
    tails a b xs ys e = cc

    -- so programs that match the filters answer it alike
    pub answer_same : (input : CallData) → IsCallData input → SameBoth input
        → (filters filters' : List Filter) (codes codes' : List (List Insn))
        → AllByRecursion (HasWantedRules (with_list one) table) filters → AllByRecursion (HasWantedRules (with_list other) table) filters'
        → AllByRecursion (λ made. IsThere table made.abi) filters
        → map place_of filters ≡ map place_of filters' → AreMatching filters codes → AreMatching filters' codes'
        → AnswerSame input codes codes'
    answer_same input fit same [] [] [] [] wanted wanted' there places m n = tt
    answer_same input fit same [] [] (code ∷ codes) codes' wanted wanted' there places m n = absurd m
    answer_same input fit same [] [] [] (code ∷ codes') wanted wanted' there places m n = absurd n
    answer_same input fit same [] (made ∷ filters') codes codes' wanted wanted' there places m n = cc
    answer_same input fit same (made ∷ filters) [] codes codes' wanted wanted' there places m n = cc
    answer_same input fit same (made ∷ filters) (made' ∷ filters') [] codes' wanted wanted' there places m n = absurd m
    answer_same input fit same (made ∷ filters) (made' ∷ filters') (code ∷ codes) [] wanted wanted' there places m n = absurd n
    answer_same input fit same (made ∷ filters) (made' ∷ filters') (code ∷ codes) (code' ∷ codes') wanted wanted' there places m n =
        let place = heads (place_of made) (place_of made') (map place_of filters) (map place_of filters') places in
        let name : made.name ≡ made'.name = same_name made.name made'.name made.abi made'.abi place in
        let abi : made.abi ≡ made'.abi = same_abi made.name made'.name made.abi made'.abi place in
        let action : case_action made.rules input ≡ case_action made'.rules input =
        wanted.0 input ∙ at_there input same made.abi there.0 made.name
        ∙ ap (λ own. wanted_action own (with_list other) table made.abi input) name
        ∙ ap (λ own. wanted_action made'.name (with_list other) table own input) abi
        ∙ sym (wanted'.0 input) in (
          answer_is code input (word_of (case_action made.rules input)) ((m.0).decides input fit) ∙ ap word_of action
              ∙ sym (answer_is code' input (word_of (case_action made'.rules input)) ((n.0).decides input fit)),
          answer_same input fit same filters filters' codes codes' wanted.1 wanted'.1 there.1
              (tails (place_of made) (place_of made') (map place_of filters) (map place_of filters') places) m.1 n.1,
        )

  pub as_long : (filters : List Filter) (codes : List (List Insn)) → AreMatching filters codes → length codes ≡ length filters
  as_long [] [] m = refl
  as_long [] (code ∷ codes) m = absurd m
  as_long (made ∷ filters) [] m = absurd m
  as_long (made ∷ filters) (code ∷ codes) m = ap suc (as_long filters codes m.1)

  module _ (sound : IsTable table) (both one other : List Mention) (pivot : (name : List ℕ) → (gives both name ≡ gives one name) ⊎ (gives both name ≡ gives other name)) (input : CallData) where
    either_at : (abi : ℕ) → SameAt both one input abi ⊎ SameAt both other input abi
    either_at abi = by (numbered input.nr (calls_in table abi)) refl
      where
        by_name : (line : CallLine) → numbered input.nr (calls_in table abi) ≡ Some line
            → (gives both line.name ≡ gives one line.name) ⊎ (gives both line.name ≡ gives other line.name)
            → SameAt both one input abi ⊎ SameAt both other input abi
        by_name line e (inl same) = inl (same_named both one input abi line e same)
        by_name line e (inr same) = inr (same_named both other input abi line e same)

        by : (o : Option CallLine) → numbered input.nr (calls_in table abi) ≡ o → SameAt both one input abi ⊎ SameAt both other input abi
        by None e = inl (same_unnamed both one input abi e)
        by (Some line) e = by_name line e (pivot line.name)

    first_with : SameAt both one input 1 → SameAt both other input 1 → SameAt both one input 0 ⊎ SameAt both other input 0
        → SameBoth both one input ⊎ SameBoth both other input
    first_with a b (inl same) = inl (same, a)
    first_with a b (inr same) = inr (same, b)

    second_with : SameAt both one input 0 → SameAt both other input 0 → SameAt both one input 1 ⊎ SameAt both other input 1
        → SameBoth both one input ⊎ SameBoth both other input
    second_with a b (inl same) = inl (a, same)
    second_with a b (inr same) = inr (b, same)

    alone : table.second ≡ None → SameBoth both one input ⊎ SameBoth both other input
    alone e =
        let nothing : numbered input.nr (calls_in table 1) ≡ None = ap (λ (o : Option Abi). numbered input.nr (option_map_or (λ found. found.calls) (slice_get (option_to_list o) 0) [])) e in
        first_with (same_unnamed both one input 1 nothing) (same_unnamed both other input 1 nothing) (either_at 0)

    beside : (second : Abi) → table.second ≡ Some second → (second.arch == table.arch) ≡ false → (b : Bool)
        → (input.arch == table.arch) ≡ b → SameBoth both one input ⊎ SameBoth both other input
    beside second e differ true own =
        let arch : arch_of table 1 ≡ second.arch = ap (λ (o : Option Abi). option_map_or (λ found. found.arch) (slice_get (option_to_list o) 0) 0) e in
        let off : (input.arch == second.arch) ≡ false = grind (arith, nat_tests) in
        let second_off : (input.arch == arch_of table 1) ≡ false = ap (λ n. input.arch == n) arch ∙ off in
        first_with (same_other both one input 1 second_off) (same_other both other input 1 second_off) (either_at 0)
    beside second e differ false own = second_with (same_other both one input 0 own) (same_other both other input 0 own) (either_at 1)

    -- the filters for both ABIs do to the call what those of the one list do, or what those of the other do
    pub either_both : SameBoth both one input ⊎ SameBoth both other input
    either_both = by table.second refl (archs_differ table sound)
      where
        by : (o : Option Abi) → table.second ≡ o → IfSome table.second (λ second. second.arch == table.arch ≡ false)
            → SameBoth both one input ⊎ SameBoth both other input
        by None e differ = alone e
        by (Some second) e differ =
            beside second e (subst (λ (o : Option Abi). IfSome o (λ second. second.arch == table.arch ≡ false)) e differ)
            (input.arch == table.arch) refl

  -- filters of one list of calls, with programs that match them
  pub record HasPrograms (mentions : List Mention) (codes : List (List Insn)) : Type 0 where
    pub filters : List Filter
    pub places : map place_of filters ≡ installed (with_list mentions) table
    pub wanted : AllByRecursion (HasWantedRules (with_list mentions) table) filters
    pub matching : AreMatching filters codes

  module _ (one other : List Mention) (codes codes' : List (List Insn)) (first : HasPrograms one codes) (second : HasPrograms other codes') where
    same_places : map place_of first.filters ≡ map place_of second.filters
    same_places = first.places ∙ installed_same one other ∙ sym second.places

    map_long : (filters filters' : List Filter) → map place_of filters ≡ map place_of filters' → length filters ≡ length filters'
    map_long [] [] e = refl
    map_long [] (made ∷ filters') e = cc
    map_long (made ∷ filters) [] e = cc
    map_long (made ∷ filters) (made' ∷ filters') e =
        ap suc (map_long filters filters'
        (tails one other (place_of made) (place_of made') (map place_of filters) (map place_of filters') e))

    pub same_long : length codes ≡ length codes'
    same_long = as_long first.filters codes first.matching ∙ map_long first.filters second.filters same_places
        ∙ sym (as_long second.filters codes' second.matching)

    pub programs_same : (input : CallData) → IsCallData input → SameBoth one other input → AnswerSame input codes codes'
    programs_same input fit same =
        answer_same one other input fit same first.filters second.filters codes codes' first.wanted second.wanted
        (filters_there (with_list one) table first.filters first.places) same_places first.matching second.matching

  -- the programs answer each call as those of one of the two other lists
  pub programs_either : IsTable table → (both one other : List Mention)
      → ((name : List ℕ) → (gives both name ≡ gives one name) ⊎ (gives both name ≡ gives other name))
      → (codes codes1 codes2 : List (List Insn))
      → HasPrograms both codes → HasPrograms one codes1 → HasPrograms other codes2 → AnswersAsEither codes codes1 codes2
  programs_either sound both one other pivot codes codes1 codes2 has has1 has2 input fit = by (either_both sound both one other pivot input)
    where
      by : SameBoth both one input ⊎ SameBoth both other input → AnswerSame input codes codes1 ⊎ AnswerSame input codes codes2
      by (inl same) = inl (programs_same both one codes codes1 has has1 input fit same)
      by (inr same) = inr (programs_same both other codes codes2 has has2 input fit same)
