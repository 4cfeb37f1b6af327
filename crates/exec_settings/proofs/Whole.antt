-- The settings of a unit, put together.
use Rattle.std.proofs.Common.{◌≡◌, ℕ, Bool, List, length, map, sym, ap, ◌∙◌, subst}
use Rattle.std.specs.Prelude.{◌==◌, ◌||◌, ◌≤◌, not}
use Rattle.std.specs.List.{All}
use Rattle.std.proofs.lemmas.List.{length-map}
use Rattle.cred_settings.specs.cap_sets.Sets.{minus}
use Rattle.filter_settings.specs.call_table.Table.{Table}
use Rattle.cred_settings.specs.dropin_merge.declared.resolved.Resolved.{Resolved}
use Rattle.filter_settings.specs.call_rules.Sizes.{CanCompile}
use Rattle.filter_settings.specs.filter_rules.Costs.{HasShortCases, most_room}
use Rattle.filter_settings.specs.filter_rules.Refusing.{AreRefusing}
use Rattle.filter_settings.specs.filter_rules.GivingUp.{may_give_up}
use Rattle.filter_settings.specs.filter_rules.Installed.{place_of, installed}
use Rattle.filter_settings.specs.filter_rules.Memory.{marks_memory}
use Rattle.filter_settings.specs.declared.filter_rules.installed.Filter.{Filter}
use Rattle.filter_settings.specs.declared.filter_rules.settings.FilterSettings.{FilterSettings}
use Rattle.cred_settings.specs.Ambient.{ambient_of}
use Rattle.cred_settings.specs.Bounding.{bounding_of}
use Rattle.cred_settings.specs.NewPrivileges.{is_in_effect_in, is_keeping}
use Rattle.exec_settings.specs.AreSettings.{AreFilters, HasWantedRules}
use Rattle.exec_settings.specs.Bounding.{taken_caps}
use Rattle.exec_settings.specs.Filtered.{counts_as_filter, has_filter, is_filtered}
use Rattle.exec_settings.specs.Settings.{ambient_within, unit_ambient, unit_bounding, unit_keeps, unit_new_privileges}
use Rattle.exec_settings.specs.Dynamic.{sets_new_privileges, unit_filters}

pub filters_are : (settings found : FilterSettings) (table : Table) (filters : List Filter) → found ≡ settings
    → map place_of filters ≡ installed found table → All (HasWantedRules found table) filters → All (λ one. CanCompile one.rules) filters
    → most_room filters ≤ 32768 → All (λ one. All HasShortCases one.rules.calls) filters → AreRefusing found
    → AreFilters settings table filters
filters_are settings found table filters is named wanted compiles fits short refuse =
    subst (λ all. AreFilters all table filters) is (record {
      exactly_those_on = named;
      do_as_wanted = wanted;
      can_be_compiled = compiles;
      fit_into_a_stack = fits;
      cases_are_short = short;
      refuse_by_numbers = refuse;
    })

module _ (unit : Resolved) (table : Table) where
  pub bounding_is : (bounding taken left : ℕ) → bounding ≡ bounding_of unit → taken ≡ taken_caps (unit_filters unit table)
      → left ≡ minus bounding taken → left ≡ unit_bounding unit table
  bounding_is bounding taken left by_key takes is = is ∙ ap (λ set. minus set taken) by_key ∙ ap (minus (bounding_of unit)) takes

  some_filter : (filters : List Filter) → map place_of filters ≡ installed (unit_filters unit table) table
      → not (length filters == 0) ≡ has_filter (unit_filters unit table) table
  some_filter filters named = ap (λ n. not (n == 0)) (sym (length-map filters place_of) ∙ ap length named)

  pub ambient_is : (own bounding ambient : ℕ) → own ≡ ambient_of unit → bounding ≡ unit_bounding unit table
      → ambient ≡ ambient_within unit.systemd own bounding → ambient ≡ unit_ambient unit table
  ambient_is own bounding ambient by_key bounded is =
      is
      ∙ ap (λ set. ambient_within unit.systemd set bounding) by_key
      ∙ ap (ambient_within unit.systemd (ambient_of unit)) bounded

  abbrev own : FilterSettings
  own = unit_filters unit table

  pub filtered_is : (filters : List Filter) (has memory counts on : Bool) → map place_of filters ≡ installed (unit_filters unit table) table
      → has ≡ not (length filters == 0) → memory ≡ marks_memory (unit_filters unit table) → counts ≡ counts_as_filter unit
      → on ≡ (has || (memory || counts)) → on ≡ is_filtered unit (unit_filters unit table) table
  filtered_is filters has memory counts on named counted marks others is =
      is
      ∙ ap (λ b. b || (memory || counts)) (counted ∙ some_filter filters named)
      ∙ ap (λ b. has_filter own table || (b || counts)) marks
      ∙ ap (λ b. has_filter own table || (marks_memory own || b)) others

  pub keeps_is : (filtered gives keeps : Bool) (uid : ℕ) → filtered ≡ is_filtered unit (unit_filters unit table) table
      → gives ≡ may_give_up table (unit_filters unit table).calls → keeps ≡ is_keeping unit.systemd filtered uid gives
      → keeps ≡ unit_keeps unit table uid
  keeps_is filtered gives keeps uid restricts by_list is =
      is
      ∙ ap (λ b. is_keeping unit.systemd b uid gives) restricts
      ∙ ap (is_keeping unit.systemd (is_filtered unit own table) uid) by_list

  pub new_privileges_are : (filters : List Filter) (is_set has filtered keeps on : Bool) (uid ambient : ℕ)
      → map place_of filters ≡ installed (unit_filters unit table) table → is_set ≡ sets_new_privileges unit
      → has ≡ not (length filters == 0) → filtered ≡ is_filtered unit (unit_filters unit table) table → ambient ≡ unit_ambient unit table
      → keeps ≡ unit_keeps unit table uid
      → on ≡ is_in_effect_in unit.systemd is_set has filtered uid ambient keeps
      → on ≡ unit_new_privileges unit table uid
  new_privileges_are filters is_set has filtered keeps on uid ambient named by_keys counted restricts cuts holds effect =
      effect
      ∙ ap (λ b. is_in_effect_in unit.systemd b has filtered uid ambient keeps) by_keys
      ∙ ap (λ b. is_in_effect_in unit.systemd (sets_new_privileges unit) b filtered uid ambient keeps) (counted ∙ some_filter filters named)
      ∙ ap (λ b. is_in_effect_in unit.systemd (sets_new_privileges unit) (has_filter own table) b uid ambient keeps) restricts
      ∙ ap (λ set. is_in_effect_in unit.systemd (sets_new_privileges unit) (has_filter own table) (is_filtered unit own table) uid set keeps)
      cuts
      ∙ ap (is_in_effect_in unit.systemd (sets_new_privileges unit) (has_filter own table) (is_filtered unit own table) uid
      (unit_ambient unit table)) holds
