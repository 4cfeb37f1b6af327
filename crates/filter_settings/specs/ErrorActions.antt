-- systemd.exec(5), SystemCallErrorNumber=: the action on calls that a filter refuses.
use Rattle.std.specs.Prelude.{ℕ, if◌then◌else◌, Option, Some, List, [], ◌∷◌, codes}
use Rattle.std.specs.Option.{option_map}
use Rattle.std.specs.Str.{bytes_eq}
use Rattle.dropin_merge.specs.text_forms.Errnos.{errno_value}
use Rattle.call_rules.specs.declared.actions.Action.{Action}
use Rattle.call_rules.specs.declared.actions.Action.TheVariants.{KillProcess, Errno}
use Rattle.dropin_merge.specs.declared.resolved.Resolved.{Resolved}
use Rattle.dropin_merge.specs.declared.unit_values.value.FileNote.{FileNote}
use Rattle.filter_settings.specs.declared.error_actions.ErrorAction.{ErrorAction}
use Rattle.dropin_merge.specs.unit_values.Lasting.{unit_last, unit_last_notes}

-- `kill` ends the process; with the name or the number of an error the call returns this error
unfoldable pub error_action : List ℕ → Option Action
error_action text = if bytes_eq text (codes "kill") then Some KillProcess else option_map Errno (errno_value text)

-- an empty value means the default: the process is ended
abbrev pub default_action : ErrorAction
default_action = record { action = KillProcess }

abbrev pub error_action_value : List ℕ → Option ErrorAction
error_action_value [] = Some default_action
error_action_value (byte ∷ text) = option_map (λ action. record { action = action }) (error_action (byte ∷ text))

-- the action that the files of a unit give to such a key, and the notes
abbrev pub unit_error_action : Resolved → List ℕ → Action
unit_error_action unit key = (unit_last error_action_value default_action unit key).action

abbrev pub unit_error_action_notes : Resolved → List ℕ → List FileNote
unit_error_action_notes unit key = unit_last_notes error_action_value unit key
