-- The values that the files of a unit give to a key (systemd.unit(5), systemd.syntax(7)).
use Rattle.std.specs.Prelude.{ℕ, ◌==◌, not, Bool, cond, Option, Some, None, List, length}
use Rattle.std.specs.List.{after_last, filter_map}
use Rattle.std.specs.Option.{option_map}
use Rattle.std.specs.Str.{bytes_eq}
use Rattle.unit_grammar.specs.declared.unit.Assignment.{Assignment}
use Rattle.unit_grammar.specs.declared.notes.NoteCause.TheVariants.{Specifier}
use Rattle.unit_names.specs.Expansion.{expansion}
use Rattle.unit_names.specs.Names.{Name}
use Rattle.unit_names.specs.declared.version.Version.{Version}
use Rattle.dropin_merge.specs.declared.resolved.Resolved.{Resolved}
use Rattle.dropin_merge.specs.declared.unit_values.value.Place.{Place}
use Rattle.dropin_merge.specs.declared.unit_values.value.FileNote.{FileNote}
use Rattle.dropin_merge.specs.declared.unit_values.value.Value.{Value}
use Rattle.dropin_merge.specs.unit_values.Assignments.{service_assignments}

-- the expanded value of an assignment, if it can be expanded
abbrev pub expanded_at : Option Version → Name → Place × Assignment → Option Value
expanded_at systemd name one = option_map (λ text. record { place = one.0; text = text }) (expansion systemd name one.1.value)

-- the note on a value that cannot be expanded
abbrev pub noted_unless : Option (List ℕ) → Place → Option FileNote
noted_unless None place = Some (record { place = place; cause = Specifier })
noted_unless (Some text) place = None

abbrev pub unexpanded_at : Option Version → Name → Place × Assignment → Option FileNote
unexpanded_at systemd name one = noted_unless (expansion systemd name one.1.value) one.0

-- an assignment to the key gives a value, or a note if the value cannot be expanded
abbrev pub given_by : Option Version → Name → List ℕ → Place × Assignment → Option Value
given_by systemd name key one = cond (bytes_eq one.1.key key) (expanded_at systemd name one) None

abbrev pub note_of : Option Version → Name → List ℕ → Place × Assignment → Option FileNote
note_of systemd name key one = cond (bytes_eq one.1.key key) (unexpanded_at systemd name one) None

-- the values of the key over all files, in the order of files and lines
abbrev pub values_of : Resolved → List ℕ → List Value
values_of unit key = filter_map (given_by unit.systemd unit.name key) (service_assignments unit)

-- the notes on values of the key that cannot be expanded
abbrev pub notes_of : Resolved → List ℕ → List FileNote
notes_of unit key = filter_map (note_of unit.systemd unit.name key) (service_assignments unit)

-- the value that an assignment gives to the key, as it is written
abbrev pub written_by : List ℕ → Place × Assignment → Option Value
written_by key one = cond (bytes_eq one.1.key key) (Some (record { place = one.0; text = one.1.value })) None

-- the values of the key as they are written, in the same order
abbrev pub written_values : Resolved → List ℕ → List Value
written_values unit key = filter_map (written_by key) (service_assignments unit)

abbrev pub is_filled : Value → Bool
is_filled value = not (length value.text == 0)

-- an empty value resets the values before it: the values after the last empty one are in force
abbrev pub in_force : List Value → List Value
in_force values = after_last (λ value. length value.text == 0) values
