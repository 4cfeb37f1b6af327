-- The values that the files of a unit assign to the keys that name paths (systemd.unit(5), systemd.exec(5), Sandboxing).
use Rattle.std.specs.Prelude.{Bool, List, Option, Some, None, option_and_then}
use Rattle.std.specs.List.{filter_map}
use Rattle.std.specs.Option.{option_map}
use Rattle.std.specs.Str.{bytes_eq}
use Rattle.path_settings.specs.declared.keys.PathKey.{PathKey}
use Rattle.path_settings.specs.declared.dialect.Dialect.{Dialect}
use Rattle.path_settings.specs.declared.dialect.Dialect.TheVariants.{Base, Systemd252, Systemd257}
use Rattle.path_settings.specs.Keys.{key_named, name_of}
use Rattle.dropin_merge.specs.unit_grammar.declared.unit.Assignment.{Assignment}
use Rattle.dropin_merge.specs.unit_names.Names.{Name}
use Rattle.dropin_merge.specs.unit_names.declared.version.Version.{Version}
use Rattle.dropin_merge.specs.unit_names.declared.version.Version.TheVariants.{V252, V257}
use Rattle.dropin_merge.specs.declared.resolved.Resolved.{Resolved}
use Rattle.dropin_merge.specs.declared.unit_values.value.Place.{Place}
use Rattle.dropin_merge.specs.declared.unit_values.value.Value.{Value}
use Rattle.dropin_merge.specs.unit_values.Assignments.{service_assignments}
use Rattle.dropin_merge.specs.unit_values.Values.{expanded_at}

-- a value of a key that names paths
pub record Assigned : Type 0 where
  pub key : PathKey
  pub value : Value

-- both are the same key, by its name
abbrev pub is_key : PathKey → PathKey → Bool
is_key one other = bytes_eq (name_of one) (name_of other)

-- the rules for names and words of keys of the systemd that reads the unit
abbrev pub dialect_of : Option Version → Dialect
dialect_of None = Base
dialect_of (Some V252) = Systemd252
dialect_of (Some V257) = Systemd257

-- the key of an assignment, if it names paths
abbrev pub key_of : Option Version → Assignment → Option PathKey
key_of systemd assignment = key_named (dialect_of systemd) assignment.key

-- the value that an assignment gives to a key, if its specifiers can be expanded
abbrev pub given_to : Option Version → Name → Place × Assignment → PathKey → Option Assigned
given_to systemd name one key = option_map (λ value. record { key = key; value = value }) (expanded_at systemd name one)

abbrev pub assigned_by : Option Version → Name → Place × Assignment → Option Assigned
assigned_by systemd name one = option_and_then (given_to systemd name one) (key_of systemd one.1)

-- the values over all files, in the order of their assignments, whatever the key
abbrev pub assigned_of : Resolved → List Assigned
assigned_of unit = filter_map (assigned_by unit.systemd unit.name) (service_assignments unit)
