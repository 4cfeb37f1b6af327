-- A unit over one table of calls and one site is launched or refused, and never both.
use Rattle.std.proofs.Common.{◌≡◌, ◌≢◌, ◌∙◌, ℕ, Bool, List, [], ◌∷◌, Some, Result, Ok, Err, map, refl, ap, sym, subst}
use Rattle.std.specs.List.{AllByRecursion}
use Rattle.std.proofs.lemmas.List.Elements.{recursion_from_All}
use Rattle.judge.specs.abs_path.Paths.{Path}
use Rattle.judge.specs.bpf_code.declared.machine.CallData.{CallData}
use Rattle.judge.specs.bpf_code.declared.machine.Insn.{Insn}
use Rattle.judge.specs.bpf_code.Reading.{bytes_of}
use Rattle.judge.proofs.OfBpfCode.Stacks.{answer_is}
use Rattle.judge.specs.call_rules.Action.{case_action, word_of}
use Rattle.judge.specs.call_table.Table as calls
use Rattle.judge.specs.cred_settings.declared.accounts.Identity.{Identity}
use Rattle.judge.specs.cred_settings.declared.error.IdentityError.{IdentityError}
use Rattle.judge.specs.dropin_merge.declared.resolved.Resolved.{Resolved}
use Rattle.judge.specs.exec_settings.AreSettings.{AreSettings, HasWantedRules}
use Rattle.judge.specs.exec_settings.Dynamic.{unit_filters}
use Rattle.judge.specs.exec_settings.Mounts.{unit_mentions}
use Rattle.judge.specs.exec_settings.Settings.{unit_keeps, unit_new_privileges}
use Rattle.judge.specs.exec_settings.declared.errors.SettingsError.{SettingsError}
use Rattle.judge.specs.exec_settings.declared.service.Settings.{Settings}
use Rattle.report_text.specs.filter_settings.filter_rules.Installed.{place_of}
use Rattle.report_text.specs.filter_settings.filter_rules.Names.{Place}
use Rattle.report_text.specs.filter_settings.filter_rules.Wanted.{wanted_action}
use Rattle.report_text.specs.filter_settings.declared.filter_rules.installed.Filter.{Filter}
use Rattle.report_text.specs.filter_settings.declared.filter_rules.settings.FilterSettings.{FilterSettings}
use Rattle.judge.specs.kern_mounts.Launch.{CanBeMounted}
use Rattle.judge.specs.kern_mounts.Split.{Table}
use Rattle.judge.specs.launcher.Alike.{AnswerAlike}
use Rattle.judge.specs.launcher.Answers.{EndsWithAll, codes_of, given_bytes, launch_with, wanted_of}
use Rattle.judge.specs.launcher.Launch.{LaunchOutcome, PrivilegedProgram, StepKilled, StepRefused, Wanted, launch}
use Rattle.judge.specs.launcher.Launch.{Launched as Ended}
use Rattle.judge.specs.launcher.Launches.{AreRead}
use Rattle.judge.specs.launcher.LaunchesAlike.{EndAlike}
use Rattle.judge.specs.launcher.Matching.{AreMatching}
use Rattle.judge.specs.launcher.declared.error.LaunchError.{LaunchError}
use Rattle.judge.specs.launcher.declared.error.LaunchError.TheVariants as error
use Rattle.judge.specs.launcher.declared.launched.Launched.{Launched as Service}
use Rattle.judge.proofs.OfLauncher.Conditions.{settings_can_be_launched}
use Rattle.judge.proofs.OfLauncher.LaunchesAlike.{launches_alike}
use Rattle.judge.proofs.OfLauncher.Programs.{they_are_read, they_match}
use Rattle.judge.specs.mount_plan.Host.{host_of}
use Rattle.judge.specs.mount_plan.Planned.{planned}
use Rattle.judge.specs.mount_plan.declared.error.PlanError.{PlanError}
use Rattle.judge.specs.mount_plan.declared.error.PlanError.TheVariants as plan
use Rattle.judge.specs.path_settings.declared.mentioned.Mentioned.{Mentioned}
use Rattle.judge.specs.path_settings.view_map.Kept.{Host, Refusal, missing, wrong_kind}
use Rattle.judge.specs.site_table.Table.{Site}
use Rattle.asked_service.proofs.OtherPrograms.{installed}
use Rattle.asked_service.specs.OneLaunch.{AreOneAnswer, AreOneService, AreTables, LaunchesOnce}
use Rattle.asked_service.specs.declared.launching.refusal.Refusal.{Refusal as Why}
use Rattle.asked_service.specs.declared.launching.refusal.Refusal.TheVariants.{Settings as InSettings, Plan, Launch, Memory}
use Rattle.asked_service.specs.launching.Launched.{IsLaunched, IsLaunchedUnit, IsNotLaunched, IsRefused, IsRefusedUnit, Launches, RefusesPath}
use Rattle.plan_command.specs.Planned.{IsPlan}

-- ---- what is the same under a constructor
heads : (a b : Place) (xs ys : List Place) → a ∷ xs ≡ b ∷ ys → a ≡ b
heads a b xs ys e = cc

tails : (a b : Place) (xs ys : List Place) → a ∷ xs ≡ b ∷ ys → xs ≡ ys
tails a b xs ys e = cc

some_path : (a b : Path) → Some a ≡ Some b → a ≡ b
some_path a b e = cc

some_error : (a b : SettingsError) → Some a ≡ Some b → a ≡ b
some_error a b e = cc

ok_identity : (a b : Identity) → ◌≡◌ {A = Result Identity IdentityError} (Ok a) (Ok b) → a ≡ b
ok_identity a b e = cc

ok_table : (a b : Table) → ◌≡◌ {A = Result Table Refusal} (Ok a) (Ok b) → a ≡ b
ok_table a b e = cc

same_missing : (a b : Path) → ◌≡◌ {A = Result Table Refusal} (Err (missing a)) (Err (missing b)) → a ≡ b
same_missing a b e = cc

same_kind : (a b : Path) → ◌≡◌ {A = Result Table Refusal} (Err (wrong_kind a)) (Err (wrong_kind b)) → a ≡ b
same_kind a b e = cc

same_program : (a b : Path) → PrivilegedProgram a ≡ PrivilegedProgram b → a ≡ b
same_program a b e = cc

-- ---- filters that do the same have programs that answer alike
filters_alike : (said : FilterSettings) (table : calls.Table) (filters filters' : List Filter) (codes codes' : List (List Insn))
    → map place_of filters ≡ map place_of filters' → AllByRecursion (HasWantedRules said table) filters
    → AllByRecursion (HasWantedRules said table) filters' → AreMatching filters codes → AreMatching filters' codes'
    → AnswerAlike codes codes'
filters_alike said table [] [] [] [] places wanted wanted' m n = tt
filters_alike said table [] [] (code ∷ codes) codes' places wanted wanted' m n = absurd m
filters_alike said table [] [] [] (code ∷ codes') places wanted wanted' m n = absurd n
filters_alike said table [] (made ∷ filters') codes codes' places wanted wanted' m n = cc
filters_alike said table (made ∷ filters) [] codes codes' places wanted wanted' m n = cc
filters_alike said table (made ∷ filters) (made' ∷ filters') [] codes' places wanted wanted' m n = absurd m
filters_alike said table (made ∷ filters) (made' ∷ filters') (code ∷ codes) [] places wanted wanted' m n = absurd n
filters_alike said table (made ∷ filters) (made' ∷ filters') (code ∷ codes) (code' ∷ codes') places wanted wanted' m n = (
  (λ (input : CallData) fit.
      answer_is code input (word_of (case_action made.rules input)) ((m.0).decides input fit)
      ∙ ap word_of
      (wanted.0 input
      ∙ ap (λ (place : Place). wanted_action place.0 said table place.1 input)
      (heads (place_of made) (place_of made') (map place_of filters) (map place_of filters') places)
      ∙ sym (wanted'.0 input))
      ∙ sym (answer_is code' input (word_of (case_action made'.rules input)) ((n.0).decides input fit))),
  filters_alike said table filters filters' codes codes'
      (tails (place_of made) (place_of made') (map place_of filters) (map place_of filters') places) wanted.1 wanted'.1 m.1 n.1,
)

-- what is asked of a launch, by its parts
abbrev asked : Path → Identity → ℕ → ℕ → Bool → Bool → Bool → List (List ℕ) → Wanted
asked program ids bounding ambient keeps on memory programs = record {
  program = program;
  uid = ids.uid;
  gid = ids.gid;
  groups = ids.groups;
  bounding = bounding;
  ambient = ambient;
  keeps_capabilities = keeps;
  no_new_privs = on;
  mdwe = memory;
  programs = programs;
}

same_asked : (program program' : Path) (ids ids' : Identity) (bounding bounding' ambient ambient' : ℕ) (keeps keeps' on on' memory memory' : Bool)
    (programs : List (List ℕ)) → program ≡ program' → ids ≡ ids' → bounding ≡ bounding' → ambient ≡ ambient' → keeps ≡ keeps' → on ≡ on'
    → memory ≡ memory'
    → asked program ids bounding ambient keeps on memory programs ≡ asked program' ids' bounding' ambient' keeps' on' memory' programs
same_asked program program' ids ids' bounding bounding' ambient ambient' keeps keeps' on on' memory memory' programs a b c d k e f =
    ap (λ own. asked own ids bounding ambient keeps on memory programs) a
    ∙ ap (λ own. asked program' own bounding ambient keeps on memory programs) b
    ∙ ap (λ own. asked program' ids' own ambient keeps on memory programs) c
    ∙ ap (λ own. asked program' ids' bounding' own keeps on memory programs) d
    ∙ ap (λ own. asked program' ids' bounding' ambient' own on memory programs) k
    ∙ ap (λ own. asked program' ids' bounding' ambient' keeps' own memory programs) e
    ∙ ap (λ own. asked program' ids' bounding' ambient' keeps' on' own programs) f

abbrev ids_of : Settings → Identity
ids_of settings = record { uid = settings.uid; gid = settings.gid; groups = settings.groups }

-- some programs that match the filters, and how a launch by them ends
record EndsBySome (table : calls.Table) (site : Site) (settings : Settings) (plan : Table) (outcome : LaunchOutcome) : Type 0 where
  programs : List (List ℕ)
  codes : List (List Insn)
  matching : AreMatching settings.filters.items codes
  read : AreRead programs codes
  ends : launch_with table site settings plan programs ≡ outcome

-- ---- settings of one unit over one table and one site, on one plan
module _ (unit : Resolved) (table : calls.Table) (site : Site) where
  -- launches by them are asked the same
  same_wanted : (settings settings' : Settings) → AreSettings unit table site settings → AreSettings unit table site settings'
      → (programs : List (List ℕ)) → wanted_of settings programs ≡ wanted_of settings' programs
  same_wanted settings settings' are are' programs =
      let ids : ids_of settings ≡ ids_of settings' = ok_identity _ _ (sym are.runs_as ∙ are'.runs_as) in
      same_asked settings.program settings'.program (ids_of settings) (ids_of settings') settings.bounding settings'.bounding
      settings.ambient settings'.ambient settings.keeps_capabilities settings'.keeps_capabilities settings.no_new_privs
      settings'.no_new_privs settings.mdwe settings'.mdwe programs
      (some_path settings.program settings'.program (sym are.launches_the_first_command ∙ are'.launches_the_first_command)) ids
      (are.bounding_without_what_is_taken ∙ sym are'.bounding_without_what_is_taken) (are.ambient ∙ sym are'.ambient)
      (are.keeps_for_the_filters ∙ ap (λ (own : Identity). unit_keeps unit table own.uid) ids ∙ sym are'.keeps_for_the_filters)
      (are.new_privileges ∙ ap (λ (own : Identity). unit_new_privileges unit table own.uid) ids ∙ sym are'.new_privileges)
      (are.refuses_memory ∙ sym are'.refuses_memory)

  same_launch : (settings settings' : Settings) (plan : Table) → AreSettings unit table site settings
      → AreSettings unit table site settings' → (programs : List (List ℕ))
      → launch_with table site settings plan programs ≡ launch_with table site settings' plan programs
  same_launch settings settings' plan are are' programs = ap (λ (wanted : Wanted). launch table site wanted plan)
      (same_wanted settings settings' are are' programs)

  module _ (tables : AreTables table site) (settings settings' : Settings) (are : AreSettings unit table site settings)
      (are' : AreSettings unit table site settings') (plan : Table) (can : CanBeMounted (host_of site) plan) where
    codes_alike : (codes codes' : List (List Insn)) → AreMatching settings.filters.items codes → AreMatching settings'.filters.items codes'
        → AnswerAlike codes codes'
    codes_alike codes codes' m n =
        let said = unit_filters unit table in
        let own = are.filters_as_wanted in
        let other = are'.filters_as_wanted in
        filters_alike said table settings.filters.items settings'.filters.items codes codes'
        (own.exactly_those_on ∙ sym other.exactly_those_on)
        (recursion_from_All (HasWantedRules said table) settings.filters.items own.do_as_wanted)
        (recursion_from_All (HasWantedRules said table) settings'.filters.items other.do_as_wanted) m n

    -- so they end alike
    ends_alike : (outcome outcome' : LaunchOutcome) (one : EndsBySome table site settings plan outcome)
        (other : EndsBySome table site settings' plan outcome') → EndAlike one.codes other.codes outcome outcome'
    ends_alike outcome outcome' one other =
        let fit = settings_can_be_launched unit table site settings tables.is_site are in
        let fit' = settings_can_be_launched unit table site settings' tables.is_site are' in
        let by : List (List ℕ) → LaunchOutcome = launch_with table site settings plan in
        let alike : EndAlike one.codes other.codes (by one.programs) (by other.programs) =
        launches_alike table site (wanted_of settings one.programs) plan other.programs one.codes other.codes tables.whole
        tables.word_archs can fit.uid
        (installed settings.filters.items fit.fit_into_a_stack one.programs one.codes one.matching one.read)
        (installed settings'.filters.items fit'.fit_into_a_stack other.programs other.codes other.matching other.read)
        (codes_alike one.codes other.codes one.matching other.matching) in
        subst (λ (end : LaunchOutcome). EndAlike one.codes other.codes outcome end)
        (same_launch settings settings' plan are are' other.programs ∙ other.ends)
        (subst (λ (end : LaunchOutcome). EndAlike one.codes other.codes end (by other.programs)) one.ends alike)

  -- a launch that ended well, and one that is refused whatever programs match
  by_service : (settings : Settings) (plan : Table) (service : Service) → IsLaunched table site settings plan service
      → EndsBySome table site settings plan (Ended service.world service.steps)
  by_service settings plan service is = record {
    programs = given_bytes service.filters;
    codes = codes_of service.filters;
    matching = they_match settings.filters.items service.filters is.launches.filters;
    read = they_are_read settings.filters.items service.filters is.launches.filters;
    ends = is.launches.ends;
  }

  by_all : (settings : Settings) (plan : Table) (outcome : LaunchOutcome) → EndsWithAll table site settings plan outcome
      → EndsBySome table site settings plan outcome
  by_all settings plan outcome all = record {
    programs = map bytes_of all.codes;
    codes = all.codes;
    matching = all.matching;
    read = all.read;
    ends = all.each (map bytes_of all.codes) all.codes all.read all.matching;
  }

  -- whether the program is privileged does not rest on the programs
  privileged_alone : (settings settings' : Settings) (plan : Table) (path : Path) (outcome : LaunchOutcome) → AreSettings unit table site settings
      → AreSettings unit table site settings'
      → ((programs : List (List ℕ)) → launch_with table site settings plan programs ≡ PrivilegedProgram path)
      → EndsBySome table site settings' plan outcome → PrivilegedProgram path ≡ outcome
  privileged_alone settings settings' plan path outcome are are' each some =
      sym (each some.programs) ∙ same_launch settings settings' plan are are' some.programs ∙ some.ends

  module _ (tables : AreTables table site) (settings settings' : Settings) (are : AreSettings unit table site settings)
      (are' : AreSettings unit table site settings') (plan : Table) (can : CanBeMounted (host_of site) plan) where
    one_service : (one other : Service) → IsLaunched table site settings plan one → IsLaunched table site settings' plan other
        → AreOneService one other
    unfolding by_service
    one_service one other is is' =
        let some = by_service settings plan one is in
        let some' = by_service settings' plan other is' in
        let ends : EndAlike (codes_of one.filters) (codes_of other.filters) (Ended one.world one.steps) (Ended other.world other.steps) =
        ends_alike tables settings settings' are are' plan can (Ended one.world one.steps) (Ended other.world other.steps) some some' in
        record {
          as_many_steps = ends.0;
          base = ends.1;
          first = ends.2;
          second = ends.3;
          answer_alike = codes_alike tables settings settings' are are' plan can (codes_of one.filters) (codes_of other.filters)
              some.matching some'.matching;
        }

    not_both : (service : Service) (why : LaunchError) → IsLaunched table site settings plan service
        → IsRefused table site settings' plan why → ⊥
    not_both service (error.PrivilegedProgram path) is each =
        let e = privileged_alone _ _ plan path _ are' are each (by_service settings plan service is) in
        cc
    not_both service (error.Refused step errno) is all =
        ends_alike tables settings settings' are are' plan can (Ended service.world service.steps) (StepRefused step errno)
        (by_service settings plan service is) (by_all settings' plan (StepRefused step errno) all)
    not_both service (error.Killed step) is all =
        ends_alike tables settings settings' are are' plan can (Ended service.world service.steps) (StepKilled step)
        (by_service settings plan service is) (by_all settings' plan (StepKilled step) all)
    not_both service error.Memory is none = none

    one_refusal : (one other : LaunchError) → IsRefused table site settings plan one → IsRefused table site settings' plan other
        → one ≡ other
    one_refusal error.Memory other none all = absurd none
    one_refusal (error.PrivilegedProgram path) error.Memory each none = absurd none
    one_refusal (error.Refused step errno) error.Memory all none = absurd none
    one_refusal (error.Killed step) error.Memory all none = absurd none
    one_refusal (error.PrivilegedProgram path) (error.PrivilegedProgram path') each each' =
        ap error.PrivilegedProgram (same_program path path' (sym (each []) ∙ same_launch settings settings' plan are are' [] ∙ each' []))
    one_refusal (error.PrivilegedProgram path) (error.Refused step errno) each all =
        let e = privileged_alone _ _ plan path _ are are' each (by_all settings' plan (StepRefused step errno) all) in
        cc
    one_refusal (error.PrivilegedProgram path) (error.Killed step) each all =
        let e = privileged_alone _ _ plan path _ are are' each (by_all settings' plan (StepKilled step) all) in
        cc
    one_refusal (error.Refused step errno) (error.PrivilegedProgram path) all each =
        let e = privileged_alone _ _ plan path _ are' are each (by_all settings plan (StepRefused step errno) all) in
        cc
    one_refusal (error.Refused step errno) (error.Refused step' errno') all all' =
        let same : EndAlike all.codes all'.codes (StepRefused step errno) (StepRefused step' errno') =
        ends_alike tables settings settings' are are' plan can (StepRefused step errno) (StepRefused step' errno')
        (by_all settings plan (StepRefused step errno) all) (by_all settings' plan (StepRefused step' errno') all') in
        ap (λ n. error.Refused n errno) same.0 ∙ ap (error.Refused step') same.1
    one_refusal (error.Refused step errno) (error.Killed step') all all' =
        absurd (ends_alike tables settings settings' are are' plan can (StepRefused step errno) (StepKilled step')
        (by_all settings plan (StepRefused step errno) all) (by_all settings' plan (StepKilled step') all'))
    one_refusal (error.Killed step) (error.PrivilegedProgram path) all each =
        let e = privileged_alone _ _ plan path _ are' are each (by_all settings plan (StepKilled step) all) in
        cc
    one_refusal (error.Killed step) (error.Refused step' errno) all all' =
        absurd (ends_alike tables settings settings' are are' plan can (StepKilled step) (StepRefused step' errno)
        (by_all settings plan (StepKilled step) all) (by_all settings' plan (StepRefused step' errno) all'))
    one_refusal (error.Killed step) (error.Killed step') all all' =
        ap error.Killed
        (ends_alike tables settings settings' are are' plan can (StepKilled step) (StepKilled step')
        (by_all settings plan (StepKilled step) all) (by_all settings' plan (StepKilled step') all'))

-- ---- a unit has one plan
one_table : (row_at : Host) (mentions : Mentioned) (plan plan' : Table) → planned row_at mentions ≡ Ok plan
    → planned row_at mentions ≡ Ok plan' → plan ≡ plan'
one_table row_at mentions plan plan' is is' = ok_table plan plan' (sym is ∙ is')

-- ---- a unit has one answer
module _ (unit : Resolved) (table : calls.Table) (site : Site) (tables : AreTables table site) where
  paths_once : (one other : PlanError) → RefusesPath (host_of site) (unit_mentions unit site) one
      → RefusesPath (host_of site) (unit_mentions unit site) other → one ≡ other
  paths_once (plan.Missing path) (plan.Missing path') is is' = ap plan.Missing (same_missing path path' (sym is ∙ is'))
  paths_once (plan.Missing path) (plan.Kind path') is is' = let clash = sym is ∙ is' in cc
  paths_once (plan.Missing path) plan.Memory is is' = absurd is'
  paths_once (plan.Kind path) (plan.Missing path') is is' = let clash = sym is ∙ is' in cc
  paths_once (plan.Kind path) (plan.Kind path') is is' = ap plan.Kind (same_kind path path' (sym is ∙ is'))
  paths_once (plan.Kind path) plan.Memory is is' = absurd is'
  paths_once plan.Memory other is is' = absurd is

  not_planned : (error : PlanError) (steps : Table) → RefusesPath (host_of site) (unit_mentions unit site) error
      → IsPlan (host_of site) (unit_mentions unit site) steps → ⊥
  not_planned (plan.Missing path) steps is has = let clash = sym is ∙ has.is_planned in cc
  not_planned (plan.Kind path) steps is has = let clash = sym is ∙ has.is_planned in cc
  not_planned plan.Memory steps is has = is

  one_plan : (steps steps' : Table) → IsPlan (host_of site) (unit_mentions unit site) steps
      → IsPlan (host_of site) (unit_mentions unit site) steps' → steps ≡ steps'
  one_plan steps steps' has has' = one_table (host_of site) (unit_mentions unit site) steps steps' has.is_planned has'.is_planned

  services_once : (one other : Service) → IsLaunchedUnit unit table site one → IsLaunchedUnit unit table site other
      → AreOneService one other
  services_once one other is is' =
      let same = one_plan is.plan is'.plan is.is_plan is'.is_plan in
      one_service unit table site tables is.settings is'.settings is.are_settings is'.are_settings is.plan is.is_plan.can_be_mounted one other
      is.launched (subst (λ (own : Table). IsLaunched table site is'.settings own other) (sym same) is'.launched)

  launched_or_barred : (service : Service) (why : LaunchError) → IsLaunchedUnit unit table site service
      → IsRefusedUnit unit table site why → ⊥
  launched_or_barred service why is barred =
      let same = one_plan is.plan barred.plan is.is_plan barred.is_plan in
      not_both unit table site tables is.settings barred.settings is.are_settings barred.are_settings is.plan is.is_plan.can_be_mounted
      service why is.launched (subst (λ (own : Table). IsRefused table site barred.settings own why) (sym same) barred.refused)

  barred_once : (one other : LaunchError) → IsRefusedUnit unit table site one → IsRefusedUnit unit table site other → one ≡ other
  barred_once one other barred barred' =
      let same = one_plan barred.plan barred'.plan barred.is_plan barred'.is_plan in
      one_refusal unit table site tables barred.settings barred'.settings barred.are_settings barred'.are_settings barred.plan
      barred.is_plan.can_be_mounted one other barred.refused
      (subst (λ (own : Table). IsRefused table site barred'.settings own other) (sym same) barred'.refused)

  launched_or_refused : (service : Service) (why : Why) → IsLaunchedUnit unit table site service
      → IsNotLaunched unit table site why → why ≡ Memory
  launched_or_refused service (InSettings error) is barred = let clash = sym is.accepted ∙ barred in cc
  launched_or_refused service (Plan error) is barred = absurd (not_planned error is.plan barred.1 is.is_plan)
  launched_or_refused service (Launch why) is barred = absurd (launched_or_barred service why is barred)
  launched_or_refused service Memory is barred = refl

  refused_once : (one other : Why) → IsNotLaunched unit table site one → IsNotLaunched unit table site other → one ≢ Memory
      → other ≢ Memory → one ≡ other
  refused_once Memory other barred barred' told told' = absurd (told refl)
  refused_once (InSettings error) (InSettings error') barred barred' told told' =
      ap InSettings (some_error error error' (sym barred ∙ barred'))
  refused_once (InSettings error) (Plan error') barred barred' told told' = let clash = sym barred'.0 ∙ barred in cc
  refused_once (InSettings error) (Launch why) barred barred' told told' = let clash = sym barred'.accepted ∙ barred in cc
  refused_once (InSettings error) Memory barred barred' told told' = absurd (told' refl)
  refused_once (Plan error) (InSettings error') barred barred' told told' = let clash = sym barred.0 ∙ barred' in cc
  refused_once (Plan error) (Plan error') barred barred' told told' = ap Plan (paths_once error error' barred.1 barred'.1)
  refused_once (Plan error) (Launch why) barred barred' told told' = absurd (not_planned error barred'.plan barred.1 barred'.is_plan)
  refused_once (Plan error) Memory barred barred' told told' = absurd (told' refl)
  refused_once (Launch why) (InSettings error) barred barred' told told' = let clash = sym barred.accepted ∙ barred' in cc
  refused_once (Launch why) (Plan error) barred barred' told told' = absurd (not_planned error barred.plan barred'.1 barred.is_plan)
  refused_once (Launch why) (Launch why') barred barred' told told' = ap Launch (barred_once why why' barred barred')
  refused_once (Launch why) Memory barred barred' told told' = absurd (told' refl)

  answers_once : (one other : Result Service Why) → Launches unit table site one → Launches unit table site other
      → AreOneAnswer one other
  answers_once (Ok one) (Ok other) is is' = services_once one other is is'
  answers_once (Ok service) (Err why) is barred = launched_or_refused service why is barred
  answers_once (Err why) (Ok service) barred is = launched_or_refused service why is barred
  answers_once (Err one) (Err other) barred barred' = refused_once one other barred barred'

pub launches_once : LaunchesOnce
launches_once unit table site one other tables is is' = answers_once unit table site tables one other is is'
