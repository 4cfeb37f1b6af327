-- The command that a unit launches (systemd.service(5), ExecStart=).
use Rattle.std.specs.Prelude.{ℕ, ◌==◌, ◌&&◌, cond, is_some, Bool, false, codes, Option, Some, None, List, [], ◌∷◌, ◌++◌, length, slice_get}
use Rattle.std.specs.List.{filter_map, list_any}
use Rattle.std.specs.Option.{option_map_or}
use Rattle.cred_settings.specs.unit_grammar.declared.notes.NoteCause.{NoteCause}
use Rattle.cred_settings.specs.unit_grammar.declared.notes.NoteCause.TheVariants.{Value as ValueCause, Unjudged}
use Rattle.cred_settings.specs.dropin_merge.declared.resolved.Resolved.{Resolved}
use Rattle.cred_settings.specs.dropin_merge.declared.unit_values.value.FileNote.{FileNote}
use Rattle.cred_settings.specs.dropin_merge.declared.unit_values.value.Value.{Value}
use Rattle.cred_settings.specs.dropin_merge.unit_values.Notes.{note_at, noted}
use Rattle.cred_settings.specs.dropin_merge.unit_values.Values.{in_force, notes_of, values_of, written_values}
use Rattle.mount_settings.specs.unit_names.Names.{Name}
use Rattle.mount_settings.specs.unit_names.declared.version.Version.{Version}
use Rattle.exec_settings.specs.Commands.{command_of}
use Rattle.exec_settings.specs.KnownCommands.{known_reading}
use Rattle.exec_settings.specs.declared.commands.Command.{Command}
use Rattle.exec_settings.specs.declared.commands.Reading.{Reading}
use Rattle.exec_settings.specs.declared.commands.Reading.TheVariants.{Launches, Noted}

-- a value that is not a command is noted
abbrev pub base_reading : Option Command → Reading
base_reading None = Noted ValueCause
base_reading (Some command) = Launches command

-- a value as the systemd of the unit reads it; without a version the rules of the base profile hold
abbrev pub reading_by : Option Version → Name → List ℕ → Reading
reading_by None name text = base_reading (command_of text)
reading_by (Some version) name text = known_reading (Some version) name text

unfoldable pub reading_of : Resolved → Value → Reading
reading_of unit value = reading_by unit.systemd unit.name value.text

abbrev pub command_in : Reading → Option Command
command_in (Noted cause) = None
command_in (Launches command) = Some command

abbrev pub is_command : Resolved → Value → Bool
is_command unit value = is_some (command_in (reading_of unit value))

-- the commands in force: an empty value resets the commands before it
abbrev pub commands_of : Resolved → List Value → List Command
commands_of unit values = filter_map (λ value. command_in (reading_of unit value)) (in_force values)

-- the first command in force is the one that is launched
abbrev pub launched_of : Resolved → List Value → Option Command
launched_of unit values = slice_get (commands_of unit values) 0

-- a command after another one is not judged
abbrev pub later_causes : Resolved → List Value × Value → List NoteCause
later_causes unit place = cond (list_any (is_command unit) place.0 && is_command unit place.1) (Unjudged ∷ []) []

-- a value that is not a command is noted, unless it is empty and so resets
abbrev pub note_by : Value → Reading → Option FileNote
note_by value (Launches command) = None
note_by value (Noted cause) = Some (note_at value cause)

abbrev pub unread_note : Resolved → Value → Option FileNote
unread_note unit value = cond (length value.text == 0) None (note_by value (reading_of unit value))

-- values that cannot be read are noted, and then commands in force after the first one
abbrev pub command_notes : Resolved → List Value → List FileNote
command_notes unit values = filter_map (unread_note unit) values ++ noted (later_causes unit) (in_force values)

-- the values of ExecStart=; a version of systemd reads them before any expansion
abbrev pub values_by : Option Version → Resolved → List Value
values_by None unit = values_of unit (codes "ExecStart")
values_by (Some version) unit = written_values unit (codes "ExecStart")

abbrev pub command_values : Resolved → List Value
command_values unit = values_by unit.systemd unit

-- without a version, values that cannot be expanded are noted first
abbrev pub unexpanded_by : Option Version → Resolved → List FileNote
unexpanded_by None unit = notes_of unit (codes "ExecStart")
unexpanded_by (Some version) unit = []

-- the command that the files of a unit launch, and the notes on ExecStart=
unfoldable pub unit_command : Resolved → Option Command
unit_command unit = launched_of unit (command_values unit)

unfoldable pub unit_command_notes : Resolved → List FileNote
unit_command_notes unit = unexpanded_by unit.systemd unit ++ command_notes unit (command_values unit)

-- the command of the unit has the prefix `!`: User= and Group= are not applied
unfoldable pub unit_leaves_ids : Resolved → Bool
unit_leaves_ids unit = option_map_or (λ (command : Command). command.leaves_ids) (unit_command unit) false
