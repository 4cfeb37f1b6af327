-- In a list of lines, an empty value resets the lines before it (systemd.exec(5), SystemCallFilter=).
use Rattle.std.specs.Prelude.{ℕ, ◌==◌, Bool, Option, List, ◌++◌, length}
use Rattle.std.specs.List.{filter_map}
use Rattle.std.specs.Option.{option_map}
use Rattle.dropin_merge.specs.declared.resolved.Resolved.{Resolved}
use Rattle.dropin_merge.specs.declared.unit_values.value.FileNote.{FileNote}
use Rattle.dropin_merge.specs.declared.unit_values.value.Value.{Value}
use Rattle.dropin_merge.specs.declared.unit_values.listed.Listed.{Listed}
use Rattle.dropin_merge.specs.unit_values.Values.{values_of, notes_of}
use Rattle.dropin_merge.specs.unit_values.Lasting.{unread_notes}
use Rattle.dropin_merge.specs.unit_values.Lines.{listed_line}

-- a value with its line, if the value can be split
abbrev pub listed : Value → Option Listed
listed value = option_map (λ line. record { value = value; line = line }) (listed_line value.text)

abbrev pub is_reset : Listed → Bool
is_reset one = length one.value.text == 0

-- the lines that the files of a unit give to such a key
unfoldable pub unit_listed : Resolved → List ℕ → List Listed
unit_listed unit key = filter_map listed (values_of unit key)

-- the notes on values that cannot be expanded, and then on values that cannot be split
unfoldable pub unit_listed_notes : Resolved → List ℕ → List FileNote
unit_listed_notes unit key = notes_of unit key ++ unread_notes listed_line (values_of unit key)
