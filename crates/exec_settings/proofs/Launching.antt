-- The reasons why the command of a unit is not launched.
use Rattle.std.proofs.Common.{◌≡◌, true, false, cond, Option, Some, None, [], ◌∷◌, refl, ap, ◌∙◌}
use Rattle.std.specs.Option.{option_map}
use Rattle.cred_settings.specs.dropin_merge.declared.resolved.Resolved.{Resolved}
use Rattle.cred_settings.specs.site_table.Table.{Site}
use Rattle.exec_settings.specs.declared.commands.Command.{Command}
use Rattle.exec_settings.specs.declared.errors.SettingsError.{SettingsError}
use Rattle.exec_settings.specs.declared.errors.SettingsError.TheVariants.{NoCommand, PrivilegedCommand, OutsideProfile}
use Rattle.exec_settings.specs.Launched.{unit_command}
use Rattle.exec_settings.specs.Profile.{outside_key}
use Rattle.exec_settings.specs.Search.{is_relative}
use Rattle.exec_settings.specs.Refusals.{command_refusal, first_reason, no_command, outside, privileged}

module _ (unit : Resolved) (site : Site) where
  reasons : command_refusal unit site
      ≡ first_reason (no_command (unit_command unit) ∷ privileged (unit_command unit) ∷ outside unit site (unit_command unit) ∷ [])
  unfolding command_refusal
  reasons = refl

  by_command : (command : Option Command) → unit_command unit ≡ command
      → command_refusal unit site ≡ first_reason (no_command command ∷ privileged command ∷ outside unit site command ∷ [])
  by_command command is = reasons ∙ ap (λ one. first_reason (no_command one ∷ privileged one ∷ outside unit site one ∷ [])) is

  pub none_is_first : unit_command unit ≡ None → command_refusal unit site ≡ Some NoCommand
  none_is_first is = by_command None is

  -- the command keeps privileges, or not
  behind_command : (command : Command) → unit_command unit ≡ Some command
      → command_refusal unit site ≡ first_reason (cond command.is_privileged (Some PrivilegedCommand) None ∷ outside unit site (Some command) ∷ [])
  behind_command command is = by_command (Some command) is

  pub privileged_is_first : (command : Command) → unit_command unit ≡ Some command → command.is_privileged ≡ true
      → command_refusal unit site ≡ Some PrivilegedCommand
  privileged_is_first command is keeps = behind_command command is
      ∙ ap (λ b. first_reason (cond b (Some PrivilegedCommand) None ∷ outside unit site (Some command) ∷ [])) keeps

  alone : (reason : Option SettingsError) → first_reason (reason ∷ []) ≡ reason
  alone None = refl
  alone (Some reason) = refl

  pub outside_is_last : (command : Command) → unit_command unit ≡ Some command → command.is_privileged ≡ false
      → command_refusal unit site ≡ option_map OutsideProfile (outside_key unit (is_relative unit site command.program))
  outside_is_last command is keeps =
      behind_command command is
      ∙ ap (λ b. first_reason (cond b (Some PrivilegedCommand) None ∷ outside unit site (Some command) ∷ [])) keeps
      ∙ alone (option_map OutsideProfile (outside_key unit (is_relative unit site command.program)))
