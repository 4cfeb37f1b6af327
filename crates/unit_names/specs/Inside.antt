-- A name keeps its whole text and its parts.
use Rattle.std.specs.Prelude.{◌≡◌, true}
use Rattle.std.specs.Option.{option_map}
use Rattle.std.specs.String.{string_bytes}
use Rattle.unit_names.specs.Names.{Name, text_of, is_unit_name}
use Rattle.unit_names.specs.declared.name.UnitName.TheInside.{Inside}

-- the kept parts
abbrev pub inner_name : Inside → Name
inner_name inside = record { prefix = string_bytes inside.prefix; instance = option_map (λ text. string_bytes text) inside.instance }

-- the kept text is the text of the parts, and the parts are allowed
abbrev pub IsWhole : Inside → Type 0
IsWhole inside = (string_bytes inside.text ≡ text_of (inner_name inside)) × (is_unit_name (inner_name inside) ≡ true)
