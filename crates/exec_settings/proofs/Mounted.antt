-- The mentions of a unit, by the values of its keys.
use Rattle.std.proofs.Common.{◌≡◌, ◌<◌, ◌≤◌, ℕ, Bool, cond, Some, None, Ok, Err, List, length, sym, ap, ◌∙◌, arith}
use Rattle.std.specs.Prelude.{nat_lt}
use Rattle.std.proofs.lemmas.Bool.{le-ltb, lt-ltb}
use Rattle.filter_settings.specs.call_table.Table.{Table}
use Rattle.cred_settings.specs.dropin_merge.declared.resolved.Resolved.{Resolved}
use Rattle.filter_settings.specs.declared.filter_rules.settings.FilterSettings.{FilterSettings}
use Rattle.mount_settings.specs.declared.protections.Switches.{Switches}
use Rattle.mount_settings.specs.declared.written.WrittenPath.{WrittenPath}
use Rattle.mount_settings.specs.Written.{unit_written}
use Rattle.exec_settings.specs.Dynamic.{is_dynamic, unit_filters}
use Rattle.exec_settings.specs.declared.errors.SettingsError.TheVariants.{TooManyPaths}
use Rattle.exec_settings.specs.Mounts.{paths_refusal, switches_of, unit_switches}

-- the switches of the filters are the values of the keys
pub switches_are : (unit : Resolved) (table : Table) (dynamic : Bool) (found : FilterSettings) (switches : Switches)
    → dynamic ≡ is_dynamic unit → found ≡ unit_filters unit table → switches ≡ switches_of dynamic found → switches ≡ unit_switches unit
unfolding unit_filters unit_switches
switches_are unit table dynamic found switches by_key is are = are ∙ ap (λ on. switches_of on found) by_key
    ∙ ap (switches_of (is_dynamic unit)) is

pub no_error : {A E : Type 0} (value : A) (error : E) → Ok value ≡ Err error → ⊥
no_error value error is = cc

not_more : (a b : ℕ) → (a < b → ⊥) → b ≤ a
not_more a b few = omega (arith, few)

-- there are too many written paths, or not
module _ (unit : Resolved) (paths : List WrittenPath) (written : paths ≡ unit_written unit) where
  pub few_paths : (128 < length paths → ⊥) → paths_refusal unit ≡ None
  unfolding paths_refusal
  few_paths few = ap (λ many. cond many (Some TooManyPaths) None)
      (ap (λ list. nat_lt 128 (length list)) (sym written) ∙ le-ltb 128 (length paths) (not_more 128 (length paths) few))

  pub many_paths : 128 < length paths → paths_refusal unit ≡ Some TooManyPaths
  unfolding paths_refusal
  many_paths many = ap (λ many. cond many (Some TooManyPaths) None)
      (ap (λ list. nat_lt 128 (length list)) (sym written) ∙ lt-ltb 128 (length paths) many)
