-- Boolean keys (systemd.syntax(7)).
use Rattle.std.specs.Prelude.{ℕ, Bool, false, Option, Some, List, [], ◌∷◌}
use Rattle.unit_grammar.specs.text_forms.Booleans.{bool_value}
use Rattle.dropin_merge.specs.declared.resolved.Resolved.{Resolved}
use Rattle.dropin_merge.specs.declared.unit_values.value.FileNote.{FileNote}
use Rattle.dropin_merge.specs.unit_values.Lasting.{unit_last, unit_last_notes}

-- an empty value is the default, which is false
abbrev pub flag_value : List ℕ → Option Bool
flag_value [] = Some false
flag_value (byte ∷ text) = bool_value (byte ∷ text)

-- the boolean that the files of a unit give to a key
abbrev pub unit_flag : Resolved → List ℕ → Bool
unit_flag unit key = unit_last flag_value false unit key

-- the notes on values that cannot be expanded or read
abbrev pub unit_flag_notes : Resolved → List ℕ → List FileNote
unit_flag_notes unit key = unit_last_notes flag_value unit key
