-- The lines of units whose settings are refused.
use Rattle.std.specs.Prelude.{ℕ, List, [], ◌++◌, codes}
use Rattle.exec_settings.specs.text_forms.Escaped.{escaped_word}
use Rattle.unit_inputs.specs.command_answers.Refusals.{refused_line}
use Rattle.exec_settings.specs.declared.errors.SettingsError.{SettingsError}
use Rattle.exec_settings.specs.declared.errors.SettingsError.TheVariants.{NoCommand, PrivilegedCommand, OutsideProfile, NoSuchUser}
use Rattle.exec_settings.specs.declared.errors.SettingsError.TheVariants.{NoSuchGroup, MissingGroup, TooManyPaths, Memory}

-- a cause with its subject
abbrev pub cause_with : List ℕ → List ℕ → List ℕ
cause_with cause what = cause ++ (codes " " ++ escaped_word what)

-- the cause of a refusal of settings; `Memory` has no cause to print
abbrev pub settings_cause : SettingsError → List ℕ
settings_cause NoCommand = codes "no-command"
settings_cause PrivilegedCommand = codes "privileged-command"
settings_cause (OutsideProfile key) = cause_with (codes "outside") key
settings_cause (NoSuchUser word) = cause_with (codes "no-user") word
settings_cause (NoSuchGroup word) = cause_with (codes "no-group") word
settings_cause (MissingGroup name) = cause_with (codes "no-set") name
settings_cause TooManyPaths = codes "too-many-paths"
settings_cause Memory = []

abbrev pub settings_line : List ℕ → SettingsError → List ℕ
settings_line unit error = refused_line unit (settings_cause error)
