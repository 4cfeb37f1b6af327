-- The least list is the only one, and names no call of `@default`.
use Rattle.std.proofs.Common.{◌≡◌, ◌≢◌, ◌⊎◌, inl, inr, ℕ, Bool, true, false, cond, codes, Some, None, Result, Ok, List, [], ◌∷◌, ◌++◌}
use Rattle.std.proofs.Common.{length, map, refl, ap, ◌∙◌, sym, subst, arith}
use Rattle.std.specs.Prelude.{◌≤◌, ◌==◌, ◌&&◌, ◌||◌, is_some, not}
use Rattle.std.proofs.lemmas.Bool.{and_from, and_parts}
use Rattle.std.specs.List.{AllByRecursion}
use Rattle.std.specs.Option.{option_map}
use Rattle.std.proofs.lemmas.List.Elements.{All-from_recursion, recursion_from_All}
use Rattle.asked_service.specs.abs_path.Paths.{Path}
use Rattle.asked_service.specs.bpf_code.Reading.{bytes_of}
use Rattle.asked_service.specs.bpf_code.declared.machine.Insn.{Insn}
use Rattle.asked_service.specs.call_table.Facts.{IsWhole}
use Rattle.asked_service.specs.call_table.Table as calls
use Rattle.asked_service.specs.cred_settings.NewPrivileges.{is_in_effect_in, is_keeping}
use Rattle.asked_service.specs.cred_settings.declared.accounts.Identity.{Identity}
use Rattle.asked_service.specs.cred_settings.declared.error.IdentityError.{IdentityError}
use Rattle.asked_service.specs.dropin_merge.declared.resolved.Resolved.{Resolved}
use Rattle.asked_service.specs.exec_settings.AreSettings.{AreSettings, HasWantedRules}
use Rattle.asked_service.specs.exec_settings.Dynamic.{sets_new_privileges, unit_filters}
use Rattle.asked_service.specs.exec_settings.RunsAs.{unit_identity}
use Rattle.asked_service.specs.exec_settings.Groups.{missing_group}
use Rattle.asked_service.specs.exec_settings.Mounts.{paths_refusal, unit_mentions}
use Rattle.asked_service.specs.exec_settings.Refusals.{command_refusal, first_reason, group_refusal, identity_refusal, refusal_of}
use Rattle.asked_service.specs.exec_settings.Filtered.{counts_as_filter, has_filter, is_filtered}
use Rattle.asked_service.specs.exec_settings.Settings.{keeps_by, unit_ambient, unit_bounding, unit_keeps, unit_new_privileges, unit_program}
use Rattle.asked_service.specs.exec_settings.declared.errors.SettingsError.TheVariants.{MissingGroup}
use Rattle.asked_service.specs.exec_settings.declared.service.Settings.{Settings}
use Rattle.asked_service.specs.filter_settings.filter_rules.Covers.{covers}
use Rattle.asked_service.specs.call_rules.declared.actions.Action.TheVariants.{Allow as Allowed}
use Rattle.asked_service.specs.filter_settings.filter_rules.Calls.{listed_by}
use Rattle.asked_service.specs.filter_settings.filter_rules.GivingUp.{may_give_up}
use Rattle.asked_service.specs.filter_settings.filter_rules.Installed.{installed, place_of}
use Rattle.asked_service.specs.unit_names.Versions.{is_257}
use Rattle.asked_service.specs.filter_settings.filter_rules.Names.{Place}
use Rattle.asked_service.specs.filter_settings.declared.filter_rules.mentions.Mention.{Mention}
use Rattle.asked_service.specs.filter_settings.declared.filter_rules.settings.FilterSettings.{FilterSettings}
use Rattle.asked_service.specs.kern_mounts.Split.{Table}
use Rattle.asked_service.specs.kern_mounts.declared.step.MountStep.{MountStep}
use Rattle.asked_service.specs.kernel_model.kernel_calls.Calls.{AreCalls}
use Rattle.asked_service.specs.kernel_model.declared.kernel_calls.call.Call.{Call}
use Rattle.asked_service.specs.kernel_model.Runs.{replies}
use Rattle.asked_service.specs.kernel_model.World.{World}
use Rattle.asked_service.specs.kernel_model.declared.reply.Reply.{Reply}
use Rattle.asked_service.specs.launching.Launched.{IsLaunchedUnit, IsNotLaunched, IsRefused, RefusesPath}
use Rattle.asked_service.specs.declared.launching.refusal.Refusal.{Refusal as Why}
use Rattle.asked_service.specs.declared.launching.refusal.Refusal.TheVariants.{Memory, Settings as InSettings, Plan, Launch}
use Rattle.asked_service.specs.launcher.Alike.{HasWordArchs, above}
use Rattle.asked_service.specs.launcher.Answers.{codes_of, given_bytes, launch_with, wanted_of}
use Rattle.asked_service.specs.launcher.Launch.{LaunchOutcome, Launched, Wanted, launch}
use Rattle.asked_service.specs.launcher.Launches.{AreRead}
use Rattle.asked_service.specs.launcher.LaunchesAlike.{AreInstalled}
use Rattle.asked_service.specs.launcher.Matching.{AreMatching}
use Rattle.asked_service.specs.launcher.declared.launched.Launched.{Launched as Service}
use Rattle.asked_service.proofs.OfLauncher.Conditions.{settings_can_be_launched}
use Rattle.asked_service.proofs.OfLauncher.Matching.{room}
use Rattle.asked_service.proofs.OfLauncher.Programs.{they_are_read, they_match}
use Rattle.asked_service.specs.mount_plan.Answers.{Plans}
use Rattle.asked_service.specs.mount_plan.Host.{host_of}
use Rattle.asked_service.specs.mount_plan.Planned.{planned}
use Rattle.asked_service.specs.mount_plan.declared.error.PlanError.{PlanError}
use Rattle.asked_service.specs.mount_plan.declared.error.PlanError.TheVariants as plan
use Rattle.asked_service.specs.site_table.Table.{IsSite, Site}
use Rattle.asked_service.specs.launcher.declared.error.LaunchError.{LaunchError}
use Rattle.asked_service.specs.launcher.declared.error.LaunchError.TheVariants as failed
use Rattle.asked_service.specs.path_settings.view_map.Kept.{Refusal}
use Rattle.derive_command.specs.trace_profile.allow_laws.Either.{PushNone}
use Rattle.derive_command.specs.trace_profile.allow_laws.Launches.{LaunchesBy}
use Rattle.derive_command.proofs.Either.{either_replies}
use Rattle.derive_command.proofs.Launches.{either_launches}
use Rattle.derive_command.specs.trace_profile.Derived.{Fails, IsDerived, IsOnlyOne, KeepAlike, not_launched, other_reply, tried_with}
use Rattle.derive_command.specs.trace_profile.Extended.{every_name, extended, is_first_line, name_at, open_unit}
use Rattle.derive_command.specs.trace_profile.Names.{AreNames, without}
use Rattle.derive_command.specs.trace_profile.Only.{LeastIsOnlyOne}
use Rattle.derive_command.specs.trace_profile.PlainNames.{HasPlainNames, IsBesideDefault}
use Rattle.derive_command.specs.trace_profile.Scripts.{first_seccomp}
use Rattle.derive_command.proofs.AllowedNames.{action_is, as_either, as_with_it, fewer_let, is_added, is_let_through, on_is, rest_in, said_list}
use Rattle.derive_command.proofs.AsEither.{HasPrograms, gives, installed_same, programs_either, same_long, with_list}
use Rattle.derive_command.proofs.ExtendedUnit.{adds_calls, filters_are, tails_are}
use Rattle.derive_command.proofs.Lists.{every_are_names, some_are_names}
use Rattle.derive_command.proofs.PushesNone.{pushes_none}
use Rattle.asked_service.specs.filter_settings.filter_rules.Memory.{marks_memory}
use Rattle.derive_command.proofs.SameButCalls as but
use Rattle.derive_command.proofs.SameLists.{at_member, has, own_has, same_lists}

module _ (unit : Resolved) (table : calls.Table) (site : Site) (sound : IsSite site) (whole : IsWhole table) (arch : HasWordArchs table) (plain : HasPlainNames table) where
  pub base : FilterSettings
  base = unit_filters unit table

  -- ---- the unit with one list of names
  module _ (names : List ℕ) (are : AreNames table names) where
    first : AllByRecursion (λ place. is_first_line table place ≡ true) names
    first = recursion_from_All (λ place. is_first_line table place ≡ true) names are.first_lines

    abbrev longer : Resolved
    longer = extended unit table names

    pub mentions : List Mention
    mentions = (said_list table plain.plain unit.systemd names).mentions

    filters : unit_filters longer table ≡ with_list table base mentions
    unfolding base mentions unit_filters
    filters = filters_are unit table plain.plain names first
        (subst (λ (tail : List ℕ). length (codes "@default" ++ tail) ≤ 1048576) (tails_are table names) (plain.short names are))

    program : unit_program longer site ≡ unit_program unit site
    program = but.program unit _ (adds_calls unit table plain.plain names first) site

    identity : unit_identity longer site ≡ unit_identity unit site
    identity = but.runs_as unit _ (adds_calls unit table plain.plain names first) site

    bounding : unit_bounding longer table ≡ unit_bounding unit table
    bounding = but.bounding unit _ (adds_calls unit table plain.plain names first) table

    ambient : unit_ambient longer table ≡ unit_ambient unit table
    ambient = but.ambient unit _ (adds_calls unit table plain.plain names first) table

    paths : unit_mentions longer site ≡ unit_mentions unit site
    paths = but.mentions unit _ (adds_calls unit table plain.plain names first) site

    abbrev settled : FilterSettings
    settled = with_list table base mentions

    -- whether systemd keeps capabilities for its filters, by the restrictions of the unit and by three names
    abbrev restricts : Bool
    restricts = has_filter settled table || (marks_memory settled || counts_as_filter unit)

    keeps : (uid : ℕ) → unit_keeps longer table uid ≡ is_keeping unit.systemd restricts uid (may_give_up table settled.calls)
    keeps uid =
        ap (λ settings. keeps_by longer settings table uid) filters
        ∙ ap (λ on. is_keeping unit.systemd (has_filter settled table || (marks_memory settled || on)) uid (may_give_up table settled.calls))
        (but.counted unit _ (adds_calls unit table plain.plain names first))

    privileges : (uid : ℕ) → unit_new_privileges longer table uid
        ≡ is_in_effect_in unit.systemd (sets_new_privileges unit) (has_filter settled table) restricts uid (unit_ambient unit table)
        (unit_keeps longer table uid)
    privileges uid =
        ap (λ on. is_in_effect_in unit.systemd on (has_filter (unit_filters longer table) table)
        (is_filtered longer (unit_filters longer table) table) uid (unit_ambient longer table) (unit_keeps longer table uid))
        (but.sets unit _ (adds_calls unit table plain.plain names first))
        ∙ ap (λ settings. is_in_effect_in unit.systemd (sets_new_privileges unit) (has_filter settings table)
        (is_filtered longer settings table) uid (unit_ambient longer table) (unit_keeps longer table uid)) filters
        ∙ ap (λ on. is_in_effect_in unit.systemd (sets_new_privileges unit) (has_filter settled table)
        (has_filter settled table || (marks_memory settled || on)) uid (unit_ambient longer table) (unit_keeps longer table uid))
        (but.counted unit _ (adds_calls unit table plain.plain names first))
        ∙ ap (λ set. is_in_effect_in unit.systemd (sets_new_privileges unit) (has_filter settled table) restricts uid set
        (unit_keeps longer table uid)) ambient

    refused : refusal_of longer table site
        ≡ first_reason (command_refusal unit site ∷ identity_refusal unit site ∷ option_map MissingGroup
        (missing_group table (with_list table base mentions)) ∷ paths_refusal unit ∷ [])
    unfolding group_refusal
    refused =
        but.refused unit _ (adds_calls unit table plain.plain names first) table site
        ∙ ap (λ settings. first_reason
        (command_refusal unit site ∷ identity_refusal unit site ∷ option_map MissingGroup
        (missing_group table settings) ∷ paths_refusal unit ∷ [])) filters

    -- programs that match the filters of its settings
    pub has_programs : (settings : Settings) → AreSettings longer table site settings → (codes : List (List Insn))
        → AreMatching settings.filters.items codes → HasPrograms table base mentions codes
    has_programs settings fit codes matching =
        let own = fit.filters_as_wanted in
        record {
          filters = settings.filters.items;
          places = subst (λ (said : FilterSettings). map place_of settings.filters.items ≡ installed said table) filters
              own.exactly_those_on;
          wanted = subst (λ (said : FilterSettings). AllByRecursion (HasWantedRules said table) settings.filters.items) filters
              (recursion_from_All (HasWantedRules (unit_filters longer table) table) settings.filters.items own.do_as_wanted);
          matching = matching;
        }

    pub installed_by : (settings : Settings) → AreSettings longer table site settings → (programs : List (List ℕ)) (codes : List (List Insn))
        → AreRead programs codes → AreMatching settings.filters.items codes → AreInstalled programs codes
    installed_by settings fit programs codes read matching =
        let few = room settings.filters.items codes matching in
        let most = fit.filters_as_wanted.fit_into_a_stack in
        record { read = read; room = omega (arith, few, most) }

  -- ---- two such units
  module _ (names others : List ℕ) (are : AreNames table names) (are_too : AreNames table others) where
    missing_same : (one other : List Mention) → missing_group table (with_list table base one)
        ≡ missing_group table (with_list table base other)
    unfolding missing_group
    missing_same one other = refl

    same_refusal : refusal_of (extended unit table names) table site ≡ refusal_of (extended unit table others) table site
    same_refusal =
        refused names are
        ∙ ap (λ found. first_reason
        (command_refusal unit site ∷ identity_refusal unit site ∷ option_map MissingGroup found ∷ paths_refusal unit ∷ []))
        (missing_same (mentions names are) (mentions others are_too))
        ∙ sym (refused others are_too)

    same_paths : unit_mentions (extended unit table names) site ≡ unit_mentions (extended unit table others) site
    same_paths = paths names are ∙ sym (paths others are_too)

    same_privileges : KeepAlike unit table names others → (uid : ℕ) → unit_new_privileges (extended unit table names) table uid
        ≡ unit_new_privileges (extended unit table others) table uid
    same_privileges alike uid =
        privileges names are uid
        ∙ ap (λ (places : List Place). is_in_effect_in unit.systemd (sets_new_privileges unit) (not (length places == 0))
        (not (length places == 0) || (marks_memory (settled names are) || counts_as_filter unit)) uid (unit_ambient unit table)
        (unit_keeps (extended unit table names) table uid))
        (installed_same table base (mentions names are) (mentions others are_too))
        ∙ ap (is_in_effect_in unit.systemd (sets_new_privileges unit) (has_filter (settled others are_too) table)
        (restricts others are_too) uid (unit_ambient unit table)) (alike uid)
        ∙ sym (privileges others are_too uid)

    -- a list of calls does not decide about memory
    memory_same : marks_memory (unit_filters (extended unit table names) table) ≡ marks_memory (unit_filters (extended unit table others) table)
    memory_same = ap marks_memory (filters names are) ∙ sym (ap marks_memory (filters others are_too))

    some_same : {X : Type 0} (a b : X) → Some a ≡ Some b → a ≡ b
    some_same a b e = cc

    ok_same : (a b : Identity) → ◌≡◌ {A = Result Identity IdentityError} (Ok a) (Ok b) → a ≡ b
    ok_same a b e = cc

    wanted_same : (program program' : Path) (uid uid' gid gid' : ℕ) (groups groups' : List ℕ) (bounding bounding' ambient ambient' : ℕ)
        (keeps keeps' on on' memory memory' : Bool) (programs : List (List ℕ))
        → program ≡ program' → uid ≡ uid' → gid ≡ gid' → groups ≡ groups' → bounding ≡ bounding' → ambient ≡ ambient' → keeps ≡ keeps'
        → on ≡ on' → memory ≡ memory'
        → ◌≡◌ {A = Wanted} (record { program = program; uid = uid; gid = gid; groups = groups; bounding = bounding; ambient = ambient; keeps_capabilities = keeps; no_new_privs = on; mdwe = memory; programs = programs })
        (record { program = program'; uid = uid'; gid = gid'; groups = groups'; bounding = bounding'; ambient = ambient'; keeps_capabilities = keeps'; no_new_privs = on'; mdwe = memory'; programs = programs })
    wanted_same program program' uid uid' gid gid' groups groups' bounding bounding' ambient ambient' keeps keeps' on on' memory memory' programs a b c d e f k g h = cc

    -- their launches are asked the same, but for the programs
    same_wanted : KeepAlike unit table names others → (settings settings' : Settings) → AreSettings (extended unit table names) table site settings
        → AreSettings (extended unit table others) table site settings' → (programs : List (List ℕ))
        → wanted_of settings programs ≡ wanted_of settings' programs
    same_wanted alike settings settings' fit fit' programs =
        let ids : ◌≡◌ {A = Identity} (record { uid = settings.uid; gid = settings.gid; groups = settings.groups }) (record { uid = settings'.uid; gid = settings'.gid; groups = settings'.groups }) =
        ok_same _ _ (sym fit.runs_as ∙ identity names are ∙ sym (identity others are_too) ∙ fit'.runs_as) in
        let uid : settings.uid ≡ settings'.uid = ap (λ (own : Identity). own.uid) ids in
        wanted_same settings.program settings'.program settings.uid settings'.uid settings.gid settings'.gid settings.groups
        settings'.groups settings.bounding settings'.bounding settings.ambient settings'.ambient settings.keeps_capabilities
        settings'.keeps_capabilities settings.no_new_privs settings'.no_new_privs settings.mdwe settings'.mdwe programs
        (some_same settings.program settings'.program (sym fit.launches_the_first_command ∙ program names are
        ∙ sym (program others are_too) ∙ fit'.launches_the_first_command))
        uid (ap (λ (own : Identity). own.gid) ids) (ap (λ (own : Identity). own.groups) ids)
        (fit.bounding_without_what_is_taken ∙ bounding names are ∙ sym (bounding others are_too) ∙ sym fit'.bounding_without_what_is_taken)
        (fit.ambient ∙ ambient names are ∙ sym (ambient others are_too) ∙ sym fit'.ambient)
        (fit.keeps_for_the_filters ∙ alike settings.uid ∙ ap (unit_keeps (extended unit table others) table) uid
        ∙ sym fit'.keeps_for_the_filters)
        (fit.new_privileges ∙ same_privileges alike settings.uid ∙ ap (unit_new_privileges (extended unit table others) table) uid
        ∙ sym fit'.new_privileges)
        (fit.refuses_memory ∙ memory_same ∙ sym fit'.refuses_memory)

    ok_plan : (a b : List MountStep) → ◌≡◌ {A = Result (List MountStep) Refusal} (Ok a) (Ok b) → a ≡ b
    ok_plan a b e = cc

    -- and have the same plan
    same_plan : (one other : List MountStep) → Plans (host_of site) (unit_mentions (extended unit table names) site) (Ok one)
        → Plans (host_of site) (unit_mentions (extended unit table others) site) (Ok other) → one ≡ other
    same_plan one other has has' =
        ok_plan one other (sym has ∙ ap (planned (host_of site)) same_paths ∙ has')

    pub same_launch : KeepAlike unit table names others → (settings settings' : Settings) (one other : Table) → AreSettings (extended unit table names) table site settings
        → AreSettings (extended unit table others) table site settings'
        → Plans (host_of site) (unit_mentions (extended unit table names) site) (Ok one)
        → Plans (host_of site) (unit_mentions (extended unit table others) site) (Ok other) → (programs : List (List ℕ))
        → launch_with table site settings one programs ≡ launch_with table site settings' other programs
    same_launch alike settings settings' one other fit fit' has has' programs =
        ap (λ (wanted : Wanted). launch table site wanted one) (same_wanted alike settings settings' fit fit' programs)
        ∙ ap (launch table site (wanted_of settings' programs)) (same_plan one other has has')

    -- the lists of calls restrict alike
    restricts_same : restricts names are ≡ restricts others are_too
    restricts_same = ap (λ (places : List Place). not (length places == 0) || (marks_memory (settled names are) || counts_as_filter unit))
        (installed_same table base (mentions names are) (mentions others are_too))

  -- ---- whether systemd keeps capabilities with one name less
  abbrev is_on : (names : List ℕ) → AreNames table names → List ℕ → Bool
  is_on names are name = is_some (listed_by table (mentions names are) name)

  on_is_let : (names : List ℕ) (are : AreNames table names) (name : List ℕ)
      → is_on names are name ≡ (is_let_through table plain.plain names name || is_added table plain.plain unit.systemd name)
  unfolding mentions
  on_is_let names are name = on_is table plain.plain unit.systemd names (first names are) Allowed name

  abbrev gives_up : (names : List ℕ) → AreNames table names → Bool
  gives_up names are = is_on names are (codes "capget") && (is_on names are (codes "capset") && is_on names are (codes "prctl"))

  -- where two lists keep alike, and a third keeps no more than the first, and as both where they both do
  kept_alike : (known limits user third one other : Bool) → (third ≡ true → one ≡ true)
      → (one ≡ true → other ≡ true → third ≡ true)
      → (known && ((limits && user) && one)) ≡ (known && ((limits && user) && other))
      → (known && ((limits && user) && third)) ≡ (known && ((limits && user) && one))
  kept_alike false limits user third one other fewer both same = refl
  kept_alike true false user third one other fewer both same = refl
  kept_alike true true false third one other fewer both same = refl
  kept_alike true true true true one other fewer both same = sym (fewer refl)
  kept_alike true true true false false other fewer both same = refl
  kept_alike true true true false true other fewer both same = both refl (sym same)

  module _ (names others : List ℕ) (are : AreNames table names) (are_too : AreNames table others) (place : ℕ)
      (h : is_first_line table place ≡ true) (are_third : AreNames table (without place names))
      (lacks : has others place ≡ false) (alike : KeepAlike unit table names others) where
    abbrev added : List ℕ → Bool
    added name = is_added table plain.plain unit.systemd name

    or_on : (a b c : Bool) → (a ≡ true → b ≡ true) → (a || c) ≡ true → (b || c) ≡ true
    or_on true b c to e = ap (λ t. t || c) (to refl)
    or_on false true c to e = refl
    or_on false false c to e = e

    fewer_on : (name : List ℕ) → is_on (without place names) are_third name ≡ true → is_on names are name ≡ true
    fewer_on name e = on_is_let names are name
        ∙ or_on (is_let_through table plain.plain (without place names) name) (is_let_through table plain.plain names name) (added name)
        (fewer_let table plain.plain place names name) (sym (on_is_let (without place names) are_third name) ∙ e)

    both_on : (name : List ℕ) → is_on names are name ≡ true → is_on others are_too name ≡ true
        → is_on (without place names) are_third name ≡ true
    both_on name e d = by (as_either table plain.plain place h names others (first (without place names) are_third) (first others are_too) lacks name)
      where
        by : (is_let_through table plain.plain (without place names) name ≡ is_let_through table plain.plain names name) ⊎
            (is_let_through table plain.plain (without place names) name ≡ is_let_through table plain.plain others name)
            → is_on (without place names) are_third name ≡ true
        by (inl same) = on_is_let (without place names) are_third name ∙ ap (λ t. t || added name) same
            ∙ sym (on_is_let names are name) ∙ e
        by (inr same) = on_is_let (without place names) are_third name ∙ ap (λ t. t || added name) same
            ∙ sym (on_is_let others are_too name) ∙ d

    fewer_given : gives_up (without place names) are_third ≡ true → gives_up names are ≡ true
    fewer_given e =
        let a = and_parts (is_on (without place names) are_third (codes "capget")) (is_on (without place names) are_third (codes "capset") && is_on (without place names) are_third (codes "prctl")) e in
        let b = and_parts (is_on (without place names) are_third (codes "capset")) (is_on (without place names) are_third (codes "prctl")) a.1 in
        and_from (is_on names are (codes "capget")) (is_on names are (codes "capset") && is_on names are (codes "prctl"))
        (fewer_on (codes "capget") a.0)
        (and_from (is_on names are (codes "capset")) (is_on names are (codes "prctl")) (fewer_on (codes "capset") b.0)
        (fewer_on (codes "prctl") b.1))

    both_given : gives_up names are ≡ true → gives_up others are_too ≡ true → gives_up (without place names) are_third ≡ true
    both_given e d =
        let a = and_parts (is_on names are (codes "capget")) (is_on names are (codes "capset") && is_on names are (codes "prctl")) e in
        let b = and_parts (is_on names are (codes "capset")) (is_on names are (codes "prctl")) a.1 in
        let c = and_parts (is_on others are_too (codes "capget")) (is_on others are_too (codes "capset") && is_on others are_too (codes "prctl")) d in
        let f = and_parts (is_on others are_too (codes "capset")) (is_on others are_too (codes "prctl")) c.1 in
        and_from (is_on (without place names) are_third (codes "capget")) (is_on (without place names) are_third (codes "capset")
        && is_on (without place names) are_third (codes "prctl")) (both_on (codes "capget") a.0 c.0)
        (and_from (is_on (without place names) are_third (codes "capset")) (is_on (without place names) are_third (codes "prctl"))
        (both_on (codes "capset") b.0 f.0) (both_on (codes "prctl") b.1 f.1))

    fewer_alike : KeepAlike unit table names (without place names)
    fewer_alike uid =
        let decided = kept_alike (is_257 unit.systemd) (restricts names are) (not (uid == 0)) (gives_up (without place names) are_third) (gives_up names are) (gives_up others are_too) fewer_given both_given
        (sym (keeps names are uid) ∙ alike uid ∙ keeps others are_too uid
        ∙ ap (λ on. is_keeping unit.systemd on uid (gives_up others are_too)) (sym (restricts_same names others are are_too))) in
        keeps names are uid ∙ sym decided
        ∙ ap (λ on. is_keeping unit.systemd on uid (gives_up (without place names) are_third))
        (restricts_same names (without place names) are are_third)
        ∙ sym (keeps (without place names) are_third uid)

  -- two lists that let the same through keep alike
  same_alike : (names others : List ℕ) (are : AreNames table names) (are_too : AreNames table others)
      → ((name : List ℕ) → is_let_through table plain.plain others name ≡ is_let_through table plain.plain names name)
      → KeepAlike unit table names others
  same_alike names others are are_too same uid =
      keeps names are uid ∙ ap (λ on. is_keeping unit.systemd on uid (gives_up names are)) (restricts_same names others are are_too)
      ∙ ap (is_keeping unit.systemd (restricts others are_too) uid) (one (codes "capget") (is_on names are (codes "capset") && is_on names are (codes "prctl"))
      ∙ ap (λ b. is_on others are_too (codes "capget") && b) (one (codes "capset") (is_on names are (codes "prctl")))
      ∙ ap (λ b. is_on others are_too (codes "capget") && (is_on others are_too (codes "capset") && b)) (on_same (codes "prctl")))
      ∙ sym (keeps others are_too uid)
    where
      on_same : (name : List ℕ) → is_on names are name ≡ is_on others are_too name
      on_same name = on_is_let names are name ∙ ap (λ b. b || is_added table plain.plain unit.systemd name) (sym (same name))
          ∙ sym (on_is_let others are_too name)

      one : (name : List ℕ) (rest : Bool) → (is_on names are name && rest) ≡ (is_on others are_too name && rest)
      one name rest = ap (λ b. b && rest) (on_same name)

  -- only systemd 257 keeps any
  pub alike_by : (names others : List ℕ) → (is_257 unit.systemd ≡ true → KeepAlike unit table names others) → KeepAlike unit table names others
  alike_by names others given = by (is_257 unit.systemd) refl
    where
      rest : List ℕ → ℕ → Bool
      rest one uid = (is_filtered (extended unit table one) (unit_filters (extended unit table one) table) table && not (uid == 0))
          && may_give_up table (unit_filters (extended unit table one) table).calls

      by : (b : Bool) → is_257 unit.systemd ≡ b → KeepAlike unit table names others
      by true e uid = given e uid
      by false e uid = ap (λ b. b && rest names uid) e ∙ sym (ap (λ b. b && rest others uid) e)

  -- ---- three such units, of which the third decides each name as one of the others
  module _ (script : List Call) (fits : AreCalls script) (none : first_seccomp table script ≡ None)
      (names others third : List ℕ) (are : AreNames table names) (are_too : AreNames table others) (are_third : AreNames table third)
      (pivot : (name : List ℕ) → (is_let_through table plain.plain third name ≡ is_let_through table plain.plain names name) ⊎
      (is_let_through table plain.plain third name ≡ is_let_through table plain.plain others name))
      (service other : Service) (launched : IsLaunchedUnit (extended unit table names) table site service) (launched_too : IsLaunchedUnit (extended unit table others) table site other)
      (alike : KeepAlike unit table names others) (alike_third : KeepAlike unit table names third) where
    -- where the two reply alike, the launch of the third ends well, and it replies so too
    record GoesAlong (settings : Settings) (mounts : Table) (programs : List (List ℕ)) (codes : List (List Insn)) : Type 0 where
      last : World
      steps : ℕ
      ends : launch_with table site settings mounts programs ≡ Launched last steps
      replies_so : replies service.world script ≡ replies other.world script → replies last script ≡ replies service.world script

    gives_by : (one : List ℕ) (are_one : AreNames table one) (name : List ℕ)
        → is_let_through table plain.plain third name ≡ is_let_through table plain.plain one name
        → gives table base (mentions third are_third) name ≡ gives table base (mentions one are_one) name
    unfolding base mentions unit_filters
    gives_by one are_one name e =
        action_is table plain.plain unit.systemd third (first third are_third) base.default_action name
        ∙ ap (λ b. cond (b || is_added table plain.plain unit.systemd name) Allowed (rest_in table plain.plain unit.systemd base.default_action name)) e
        ∙ sym (action_is table plain.plain unit.systemd one (first one are_one) base.default_action name)

    pivot_gives : (name : List ℕ) → (gives table base (mentions third are_third) name ≡ gives table base (mentions names are) name) ⊎
        (gives table base (mentions third are_third) name ≡ gives table base (mentions others are_too) name)
    pivot_gives name = by (pivot name)
      where
        by : (is_let_through table plain.plain third name ≡ is_let_through table plain.plain names name) ⊎
            (is_let_through table plain.plain third name ≡ is_let_through table plain.plain others name)
            → (gives table base (mentions third are_third) name ≡ gives table base (mentions names are) name) ⊎
            (gives table base (mentions third are_third) name ≡ gives table base (mentions others are_too) name)
        by (inl e) = inl (gives_by names are name e)
        by (inr e) = inr (gives_by others are_too name e)

    goes_along : (settings : Settings) (mounts : Table) (programs : List (List ℕ)) (codes : List (List Insn))
        → AreSettings (extended unit table third) table site settings
        → Plans (host_of site) (unit_mentions (extended unit table third) site) (Ok mounts) → AreMatching settings.filters.items codes
        → AreRead programs codes → GoesAlong settings mounts programs codes
    goes_along settings mounts programs codes fit has matching read =
        let l = launched.launched in
        let m = launched_too.launched in
        let own_codes : List (List Insn) = codes_of service.filters in
        let other_codes : List (List Insn) = codes_of other.filters in
        let own_settings = launched.settings in
        let other_settings = launched_too.settings in
        let own_match = they_match own_settings.filters.items service.filters l.launches.filters in
        let other_match = they_match other_settings.filters.items other.filters m.launches.filters in
        let own_read = they_are_read own_settings.filters.items service.filters l.launches.filters in
        let other_read = they_are_read other_settings.filters.items other.filters m.launches.filters in
        let own_has = has_programs names are own_settings launched.are_settings own_codes own_match in
        let other_has = has_programs others are_too other_settings launched_too.are_settings other_codes other_match in
        let third_has = has_programs third are_third settings fit codes matching in
        let like = programs_either table base whole.sound (mentions third are_third) (mentions names are) (mentions others are_too) pivot_gives codes own_codes other_codes third_has own_has other_has in
        let can = settings_can_be_launched (extended unit table names) table site own_settings sound launched.are_settings in
        let own_launch : LaunchesBy table site (wanted_of own_settings []) launched.plan (given_bytes service.filters) own_codes service.world = record {
          installed = installed_by names are own_settings launched.are_settings (given_bytes service.filters) own_codes own_read own_match;
          steps = service.steps;
          launched = l.launches.ends;
        } in
        let other_launch : LaunchesBy table site (wanted_of own_settings []) launched.plan (given_bytes other.filters) other_codes other.world = record {
          installed = installed_by others are_too other_settings launched_too.are_settings
              (given_bytes other.filters) other_codes other_read other_match;
          steps = other.steps;
          launched = same_launch names others are are_too alike own_settings other_settings launched.plan launched_too.plan
              launched.are_settings launched_too.are_settings launched.is_plan.is_planned launched_too.is_plan.is_planned
              (given_bytes other.filters)
              ∙ m.launches.ends;
        } in
        let together = either_launches table site (wanted_of own_settings []) launched.plan programs (given_bytes service.filters) (given_bytes other.filters) codes own_codes other_codes service.world other.world
        whole arch launched.is_plan.can_be_mounted can.uid (installed_by third are_third settings fit programs codes read matching)
        (same_long table base (mentions third are_third) (mentions names are) codes own_codes third_has own_has)
        (same_long table base (mentions third are_third) (mentions others are_too) codes other_codes third_has other_has)
        like own_launch other_launch in
        let told : together.base.calls ≡ table = ap (λ (world : World). world.calls) (sym together.as_one) ∙ ap (λ seen. seen.calls) l.leaves_one_process.leaves.is in
        record {
          last = above codes together.base;
          steps = together.steps;
          ends = sym (same_launch names third are are_third alike_third own_settings settings launched.plan mounts launched.are_settings fit
              launched.is_plan.is_planned has programs) ∙ together.launched;
          replies_so = λ e.
              either_replies codes own_codes other_codes together.base script like (subst HasWordArchs (sym told) arch) fits
              (subst (λ (own : calls.Table). PushNone own script) (sym told) (pushes_none table script none))
              (ap (λ (world : World). replies world script) (sym together.as_one) ∙ e
              ∙ ap (λ (world : World). replies world script) together.as_other)
              ∙ ap (λ (world : World). replies world script) (sym together.as_one);
        }

    ended : (last last' : World) (count count' : ℕ) → Launched last count ≡ Launched last' count' → last ≡ last'
    ended last last' count count' e = cc

    -- the third unit, launched, replies as the first
    pub replies_as : (own : Service) → IsLaunchedUnit (extended unit table third) table site own
        → replies service.world script ≡ replies other.world script → replies own.world script ≡ replies service.world script
    replies_as own run same =
        let l = run.launched in
        let settings = run.settings in
        let goes = goes_along settings run.plan (given_bytes own.filters) (codes_of own.filters) run.are_settings run.is_plan.is_planned (they_match settings.filters.items own.filters l.launches.filters) (they_are_read settings.filters.items own.filters l.launches.filters) in
        ap (λ (world : World). replies world script) (ended own.world goes.last own.steps goes.steps (sym l.launches.ends ∙ goes.ends))
        ∙ goes.replies_so same

    launched_only : (last : World) (steps : ℕ) (outcome : LaunchOutcome) (x : LaunchOutcome) → x ≡ Launched last steps → x ≡ outcome
        → Launched last steps ≡ outcome
    launched_only last steps outcome x e d = sym e ∙ d

    refused_launch : (settings : Settings) (mounts : Table) → AreSettings (extended unit table third) table site settings
        → Plans (host_of site) (unit_mentions (extended unit table third) site) (Ok mounts) → (why : LaunchError)
        → IsRefused table site settings mounts why → ⊥
    refused_launch settings mounts fit has (failed.PrivilegedProgram program) ends =
        let here = same_launch third names are_third are (λ uid. sym (alike_third uid)) settings launched.settings mounts launched.plan fit launched.are_settings has launched.is_plan.is_planned (given_bytes service.filters) in
        let e = sym (ends (given_bytes service.filters)) ∙ here ∙ launched.launched.launches.ends in
        cc
    refused_launch settings mounts fit has (failed.Refused step errno) ends =
        let goes = goes_along settings mounts (map bytes_of ends.codes) ends.codes fit has ends.matching ends.read in
        let e = sym goes.ends ∙ ends.each (map bytes_of ends.codes) ends.codes ends.read ends.matching in
        cc
    refused_launch settings mounts fit has (failed.Killed step) ends =
        let goes = goes_along settings mounts (map bytes_of ends.codes) ends.codes fit has ends.matching ends.read in
        let e = sym goes.ends ∙ ends.each (map bytes_of ends.codes) ends.codes ends.read ends.matching in
        cc
    refused_launch settings mounts fit has failed.Memory none = none

    refused_path : (error : PlanError) → RefusesPath (host_of site) (unit_mentions (extended unit table third) site) error → ⊥
    refused_path (plan.Missing path) e =
        let same = ap (planned (host_of site)) (same_paths third names are_third are) in
        let clash = sym e ∙ same ∙ launched.is_plan.is_planned in
        cc
    refused_path (plan.Kind path) e =
        let same = ap (planned (host_of site)) (same_paths third names are_third are) in
        let clash = sym e ∙ same ∙ launched.is_plan.is_planned in
        cc
    refused_path plan.Memory e = e

    -- so the third does not fail
    not_refused : (error : Why) → error ≢ Memory → IsNotLaunched (extended unit table third) table site error → ⊥
    not_refused (InSettings error) ne refused = let clash = sym refused ∙ same_refusal third names are_third are ∙ launched.accepted in cc
    not_refused (Plan error) ne refused = refused_path error refused.1
    not_refused (Launch why) ne refused = refused_launch refused.settings refused.plan refused.are_settings refused.is_plan.is_planned why
        refused.refused
    not_refused Memory ne refused = ne refl

    pub does_not_fail : (said : List Reply) → replies service.world script ≡ said → replies other.world script ≡ said
        → Fails (tried_with unit table site script said) third → ⊥
    does_not_fail said e d (not_launched error ne refused) = not_refused error ne refused
    does_not_fail said e d (other_reply own replied differs) =
        differs (sym replied.replies ∙ replies_as replied.service replied.launched (e ∙ sym d) ∙ e)

  -- ---- lists that are derived
  module _ (script : List Call) (fits : AreCalls script) (none : first_seccomp table script ≡ None) where
    -- all units that allow every call reply alike
    opened_alike : (service other : Service) → IsLaunchedUnit (open_unit unit table) table site service
        → IsLaunchedUnit (open_unit unit table) table site other → replies other.world script ≡ replies service.world script
    opened_alike service other launched launched_too =
        replies_as script fits none (every_name table) (every_name table) (every_name table) (every_are_names table)
        (every_are_names table) (every_are_names table) (λ name. inl refl) service service launched launched (λ uid. refl) (λ uid. refl) other launched_too refl

    module _ (names others : List ℕ) (derived : IsDerived unit table site script names) (derived_too : IsDerived unit table site script others) (alike : KeepAlike unit table names others) where
      said : List Reply
      said = replies derived.service.world script

      fails : AllByRecursion (λ name. Fails (tried_with unit table site script said) (without name names)) names
      unfolding said
      fails = recursion_from_All
          (λ name. Fails (tried_with unit table site script (replies derived.service.world script)) (without name names)) names
          derived.least.needed

      are : AreNames table names
      are = derived.least.are_names

      are_too : AreNames table others
      are_too = derived_too.least.are_names

      line_of_name : (place : ℕ) → has names place ≡ true → is_first_line table place ≡ true
      line_of_name place is = at_member (λ one. is_first_line table one ≡ true) names place (first names are) is

      fewer : (place : ℕ) → AreNames table (without place names)
      fewer place = some_are_names table (λ one. not (one == place)) names are

      other_said : replies derived_too.least.serves.service.world script ≡ said
      unfolding said
      other_said = derived_too.least.serves.replies ∙ opened_alike derived.service derived_too.service derived.opened derived_too.opened

      own_said : replies derived.least.serves.service.world script ≡ said
      unfolding said
      own_said = derived.least.serves.replies

      -- each name of the one list is in the other
      pub member : (place : ℕ) → has names place ≡ true → has others place ≡ true
      member place is = by (has others place) refl
        where
          by : (b : Bool) → has others place ≡ b → b ≡ true
          by true e = refl
          by false e = absurd
              (does_not_fail script fits none names others (without place names) are are_too (fewer place)
              (as_either table plain.plain place (line_of_name place is) names others (first (without place names) (fewer place))
              (first others are_too) e)
              derived.least.serves.service derived_too.least.serves.service derived.least.serves.launched
              derived_too.least.serves.launched alike
              (fewer_alike names others are are_too place (line_of_name place is) (fewer place) e alike) said own_said other_said
              (at_member (λ name. Fails (tried_with unit table site script said) (without name names)) names place fails is))

      -- and not in `@default`
      pub beside : (place : ℕ) → has names place ≡ true → IsBesideDefault table place
      beside place is = by (covers table (codes "@default") (name_at table place)) refl
        where
          by : (b : Bool) → covers table (codes "@default") (name_at table place) ≡ b → b ≡ false
          by false e = refl
          by true e = absurd
              (does_not_fail script fits none names names (without place names) are are (fewer place)
              (λ name. inl (as_with_it table plain.plain place (line_of_name place is) names names
              (first (without place names) (fewer place)) (first names are) e name))
              derived.least.serves.service derived.least.serves.service derived.least.serves.launched derived.least.serves.launched
              (λ uid. refl) (same_alike names (without place names) are (fewer place)
              (as_with_it table plain.plain place (line_of_name place is) names names (first (without place names) (fewer place)) (first names are) e))
              said own_said own_said
              (at_member (λ name. Fails (tried_with unit table site script said) (without name names)) names place fails is))

    each_member : (P : ℕ → Type 0) (xs : List ℕ) → ((x : ℕ) → has xs x ≡ true → P x) → AllByRecursion P xs
    each_member P [] holds = tt
    each_member P (x ∷ xs) holds = (holds x (own_has x xs), each_member P xs (λ y is. holds y (behind (x == y) (has xs y) is)))
      where
        behind : (a b : Bool) → b ≡ true → (a || b) ≡ true
        behind true b e = refl
        behind false b e = e

    pub only_one : (names : List ℕ) → IsDerived unit table site script names → IsOnlyOne unit table site script names
    only_one names derived = record {
      beside_default = All-from_recursion (IsBesideDefault table) names
          (each_member (IsBesideDefault table) names (beside names names derived derived (λ uid. refl)));
      only = λ others derived_too given.
          let alike : KeepAlike unit table names others = alike_by names others given in
          same_lists others names derived_too.least.are_names.in_order derived.least.are_names.in_order
          (member others names derived_too derived (λ uid. sym (alike uid))) (member names others derived derived_too alike);
    }

pub least_is_only_one : LeastIsOnlyOne
least_is_only_one unit table site script names sound whole arch fits none plain derived =
    only_one unit table site sound whole arch plain script fits none names derived
