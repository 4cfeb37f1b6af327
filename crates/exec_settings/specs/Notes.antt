-- All notes on a unit.
use Rattle.std.specs.Prelude.{ℕ, List, ◌++◌, flat_map, map}
use Rattle.std.specs.List.{enumerate_from}
use Rattle.cred_settings.specs.unit_grammar.declared.notes.Note.{Note}
use Rattle.cred_settings.specs.dropin_merge.declared.resolved.Resolved.{Resolved}
use Rattle.cred_settings.specs.dropin_merge.declared.resolved.UnitFile.{UnitFile}
use Rattle.filter_settings.specs.call_table.Table.{Table}
use Rattle.cred_settings.specs.dropin_merge.declared.unit_values.value.FileNote.{FileNote}
use Rattle.filter_settings.specs.Settings.{filter_notes}
use Rattle.cred_settings.specs.Ambient.{ambient_notes}
use Rattle.cred_settings.specs.Bounding.{bounding_notes}
use Rattle.cred_settings.specs.Identities.{identity_notes}
use Rattle.cred_settings.specs.NewPrivileges.{new_privileges_notes}
use Rattle.exec_settings.specs.Launched.{unit_command_notes}
use Rattle.exec_settings.specs.Judged.{unjudged_notes}
use Rattle.exec_settings.specs.Dynamic.{dynamic_notes}
use Rattle.mount_settings.specs.Notes.{written_notes}
use Rattle.mount_settings.specs.Protections.{protection_notes}

-- a note of the grammar of unit files, in the file of this number
abbrev pub in_file : ℕ → Note → FileNote
in_file number note = record { place = record { file = number; line = note.line }; cause = note.cause }

abbrev pub grammar_notes_in : ℕ → UnitFile → List FileNote
grammar_notes_in number file = map (in_file number) file.text.notes

-- the notes over all files, whatever the section
unfoldable pub grammar_notes : Resolved → List FileNote
grammar_notes unit = flat_map (λ place. grammar_notes_in place.0 place.1) (enumerate_from 0 unit.files)

-- the notes on the text: by the grammar, and on keys that are not judged
unfoldable pub text_notes : Resolved → List FileNote
text_notes unit = grammar_notes unit ++ unjudged_notes unit

-- the notes on users, groups and capabilities
unfoldable pub credential_notes : Resolved → List FileNote
credential_notes unit = dynamic_notes unit ++
    (bounding_notes unit ++ (ambient_notes unit ++ (new_privileges_notes unit ++ identity_notes unit)))

-- all notes; the notes on one key are in the order of its values and words
unfoldable pub all_notes : Resolved → Table → List FileNote
all_notes unit table =
    ((((text_notes unit ++ written_notes unit) ++ unit_command_notes unit) ++ credential_notes unit) ++ filter_notes unit table)
    ++ protection_notes unit
