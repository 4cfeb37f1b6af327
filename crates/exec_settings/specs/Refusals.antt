-- The reason why a unit has no settings: the first of all reasons.
use Rattle.std.specs.Prelude.{◌≡◌, cond, Option, Some, None, option_and_then, List, [], ◌∷◌, Result, Ok, Err}
use Rattle.std.specs.Option.{option_map}
use Rattle.filter_settings.specs.call_table.Table.{Table}
use Rattle.cred_settings.specs.dropin_merge.declared.resolved.Resolved.{Resolved}
use Rattle.cred_settings.specs.site_table.Table.{Site}
use Rattle.cred_settings.specs.declared.accounts.Identity.{Identity}
use Rattle.cred_settings.specs.declared.error.IdentityError.{IdentityError}
use Rattle.cred_settings.specs.declared.error.IdentityError.TheVariants as ids
use Rattle.exec_settings.specs.declared.commands.Command.{Command}
use Rattle.exec_settings.specs.declared.errors.SettingsError.{SettingsError}
use Rattle.exec_settings.specs.declared.errors.SettingsError.TheVariants.{NoCommand, PrivilegedCommand, OutsideProfile, NoSuchUser}
use Rattle.exec_settings.specs.declared.errors.SettingsError.TheVariants.{NoSuchGroup, MissingGroup, TooManyPaths, Memory}
use Rattle.exec_settings.specs.Launched.{unit_command}
use Rattle.exec_settings.specs.Dynamic.{unit_filters}
use Rattle.exec_settings.specs.Groups.{missing_group}
use Rattle.exec_settings.specs.Mounts.{paths_refusal}
use Rattle.exec_settings.specs.Profile.{outside_key}
use Rattle.exec_settings.specs.Search.{is_relative}
use Rattle.exec_settings.specs.RunsAs.{unit_identity}

-- the first of these reasons that exists
abbrev pub first_reason : List (Option SettingsError) → Option SettingsError
first_reason [] = None
first_reason (None ∷ reasons) = first_reason reasons
first_reason (Some reason ∷ reasons) = Some reason

-- no command is in force
abbrev pub no_command : Option Command → Option SettingsError
no_command None = Some NoCommand
no_command (Some command) = None

abbrev pub privileged : Option Command → Option SettingsError
privileged None = None
privileged (Some command) = cond command.is_privileged (Some PrivilegedCommand) None

abbrev pub outside : Resolved → Site → Option Command → Option SettingsError
outside unit site command =
    option_map OutsideProfile (option_and_then (λ one. outside_key unit (is_relative unit site one.program)) command)

-- the reason why its command is not launched
unfoldable pub command_refusal : Resolved → Site → Option SettingsError
command_refusal unit site = first_reason
    (no_command (unit_command unit) ∷ privileged (unit_command unit) ∷ outside unit site (unit_command unit) ∷ [])

-- the reason why its users and groups are refused
abbrev pub identity_reason : Result Identity IdentityError → Option SettingsError
identity_reason (Ok identity) = None
identity_reason (Err (ids.NoSuchUser word)) = Some (NoSuchUser word)
identity_reason (Err (ids.NoSuchGroup word)) = Some (NoSuchGroup word)
identity_reason (Err ids.Memory) = None

unfoldable pub identity_refusal : Resolved → Site → Option SettingsError
identity_refusal unit site = identity_reason (unit_identity unit site)

-- the first group of calls that its filters need and that the table lacks
unfoldable pub group_refusal : Resolved → Table → Option SettingsError
group_refusal unit table = option_map MissingGroup (missing_group table (unit_filters unit table))

-- the first reason in this order: the command, users and groups, a group of calls that the table lacks, too many paths
unfoldable pub refusal_of : Resolved → Table → Site → Option SettingsError
refusal_of unit table site =
    first_reason (command_refusal unit site ∷ identity_refusal unit site ∷ group_refusal unit table ∷ paths_refusal unit ∷ [])

-- an error is this reason, unless memory ran out
abbrev pub IsReason : Option SettingsError → SettingsError → Type 0
IsReason reason Memory = Unit {0}
IsReason reason NoCommand = reason ≡ Some NoCommand
IsReason reason PrivilegedCommand = reason ≡ Some PrivilegedCommand
IsReason reason TooManyPaths = reason ≡ Some TooManyPaths
IsReason reason (OutsideProfile key) = reason ≡ Some (OutsideProfile key)
IsReason reason (NoSuchUser word) = reason ≡ Some (NoSuchUser word)
IsReason reason (NoSuchGroup word) = reason ≡ Some (NoSuchGroup word)
IsReason reason (MissingGroup name) = reason ≡ Some (MissingGroup name)

-- there is an answer only if there is no reason, and each error is the first reason, unless memory ran out
abbrev pub RefusesFirst : {X : Type 0} → Option SettingsError → Result X SettingsError → Type 0
RefusesFirst reason (Ok made) = reason ≡ None
RefusesFirst reason (Err error) = IsReason reason error
