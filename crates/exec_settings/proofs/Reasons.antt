-- The reason that is the first.
use Rattle.std.specs.Prelude.{Result, IsErrAnd}
use Rattle.std.proofs.lemmas.Result.{err_from_is_err_and}
use Rattle.std.proofs.Common.{◌≡◌, Option, Some, None, [], ◌∷◌, refl, ap, ◌∙◌}
use Rattle.filter_settings.specs.call_table.Table.{Table}
use Rattle.cred_settings.specs.dropin_merge.declared.resolved.Resolved.{Resolved}
use Rattle.cred_settings.specs.site_table.Table.{Site}
use Rattle.exec_settings.specs.declared.errors.SettingsError.{SettingsError}
use Rattle.exec_settings.specs.declared.errors.SettingsError.TheVariants.{NoCommand, PrivilegedCommand, OutsideProfile, NoSuchUser}
use Rattle.exec_settings.specs.declared.errors.SettingsError.TheVariants.{NoSuchGroup, MissingGroup, TooManyPaths, Memory}
use Rattle.exec_settings.specs.Mounts.{paths_refusal}
use Rattle.exec_settings.specs.Refusals.{IsReason, RefusesFirst, command_refusal, first_reason, group_refusal, identity_refusal, refusal_of}

abbrev four : Option SettingsError → Option SettingsError → Option SettingsError → Option SettingsError → Option SettingsError
four command identity group paths = first_reason (command ∷ identity ∷ group ∷ paths ∷ [])

alone : (reason : Option SettingsError) → first_reason (reason ∷ []) ≡ reason
alone None = refl
alone (Some reason) = refl

-- an error that is returned as it is
pub handed_on : {X : Type 0} (reason : Option SettingsError) (error : SettingsError) (r : Result X SettingsError)
    → IsErrAnd r (λ told. told ≡ error) → IsReason reason error → RefusesFirst reason r
handed_on reason error r told is = let p = err_from_is_err_and r told in rw (p.1, p.2) is

module _ (unit : Resolved) (table : Table) (site : Site) where
  abbrev missing : Option SettingsError
  missing = group_refusal unit table

  reasons : refusal_of unit table site ≡ four (command_refusal unit site) (identity_refusal unit site) missing (paths_refusal unit)
  unfolding refusal_of
  reasons = refl

  -- an error that is the reason of a part is the reason of the whole
  as_reason : (part : Option SettingsError) (error : SettingsError)
      → ((found : SettingsError) → part ≡ Some found → refusal_of unit table site ≡ Some found) → IsReason part error
      → IsReason (refusal_of unit table site) error
  as_reason part Memory whole is = is
  as_reason part NoCommand whole is = whole NoCommand is
  as_reason part PrivilegedCommand whole is = whole PrivilegedCommand is
  as_reason part TooManyPaths whole is = whole TooManyPaths is
  as_reason part (OutsideProfile key) whole is = whole (OutsideProfile key) is
  as_reason part (NoSuchUser word) whole is = whole (NoSuchUser word) is
  as_reason part (NoSuchGroup word) whole is = whole (NoSuchGroup word) is
  as_reason part (MissingGroup name) whole is = whole (MissingGroup name) is

  pub command_first : (error : SettingsError) → IsReason (command_refusal unit site) error → IsReason (refusal_of unit table site) error
  command_first error is = as_reason (command_refusal unit site) error
      (λ found e. reasons ∙ ap (λ o. four o (identity_refusal unit site) missing (paths_refusal unit)) e) is

  -- if the command is launched
  module _ (launched : command_refusal unit site ≡ None) where
    behind_launched : refusal_of unit table site ≡ four None (identity_refusal unit site) missing (paths_refusal unit)
    behind_launched = reasons ∙ ap (λ o. four o (identity_refusal unit site) missing (paths_refusal unit)) launched

    pub identity_next : (error : SettingsError) → IsReason (identity_refusal unit site) error → IsReason (refusal_of unit table site) error
    identity_next error is = as_reason (identity_refusal unit site) error
        (λ found e. behind_launched ∙ ap (λ o. four None o missing (paths_refusal unit)) e) is

    -- and runs as somebody
    module _ (somebody : identity_refusal unit site ≡ None) where
      behind_somebody : refusal_of unit table site ≡ four None None missing (paths_refusal unit)
      behind_somebody = behind_launched ∙ ap (λ o. four None o missing (paths_refusal unit)) somebody

      pub missing_next : (error : SettingsError) → IsReason (group_refusal unit table) error → IsReason (refusal_of unit table site) error
      missing_next error is = as_reason (group_refusal unit table) error
          (λ found e. behind_somebody ∙ ap (λ o. four None None o (paths_refusal unit)) e) is

      -- and the table has all groups of calls
      module _ (grouped : group_refusal unit table ≡ None) where
        behind_groups : refusal_of unit table site ≡ paths_refusal unit
        behind_groups = behind_somebody ∙ ap (λ o. four None None o (paths_refusal unit)) grouped ∙ alone (paths_refusal unit)

        pub paths_last : (error : SettingsError) → IsReason (paths_refusal unit) error → IsReason (refusal_of unit table site) error
        paths_last error is = as_reason (paths_refusal unit) error (λ found e. behind_groups ∙ e) is

        pub no_reason : paths_refusal unit ≡ None → refusal_of unit table site ≡ None
        no_reason is = behind_groups ∙ is
