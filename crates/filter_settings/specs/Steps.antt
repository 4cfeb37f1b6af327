-- The steps by which the values of a key are read: the result after one more value.
use Rattle.std.specs.Prelude.{◌||◌, ◌&&◌, not, Bool, cond, Option, Some, None, unwrap_or}
use Rattle.dropin_merge.specs.unit_names.declared.version.Version.{Version}
use Rattle.dropin_merge.specs.declared.unit_values.listed.Listed.{Listed}
use Rattle.dropin_merge.specs.unit_values.Listed.{is_reset}
use Rattle.filter_settings.specs.declared.filter_rules.mentions.Mode.{Mode}
use Rattle.filter_settings.specs.linux_numbers.declared.namespaces.NamespaceType.{NamespaceType}
use Rattle.filter_settings.specs.declared.filter_rules.namespace_types.NamespaceTypes.{NamespaceTypes}
use Rattle.filter_settings.specs.filter_rules.NamespaceTypes.{permits}
use Rattle.filter_settings.specs.Modes.{mode_of}
use Rattle.filter_settings.specs.Namespaces.{begins, counts, says, types_by}

-- the mode of a list after one more value, which may begin or end the list
abbrev pub next_mode : Option Mode → Listed → Option Mode
next_mode mode one = cond (is_reset one) None (Some (unwrap_or mode (mode_of one.line)))

abbrev pub next_type : Bool → Listed → NamespaceType → Bool → Bool
next_type is_later one kind was = unwrap_or (says is_later kind one) was

abbrev pub next_types : Bool → Listed → NamespaceTypes → NamespaceTypes
next_types is_later one types = types_by (λ kind. next_type is_later one kind (permits types kind))

-- a value that is ignored leaves the types as they are
abbrev pub types_behind : Option Version → Bool → Listed → NamespaceTypes → NamespaceTypes
types_behind systemd is_later one types = cond (counts systemd one) (next_types is_later one types) types

-- a value that begins is among the values since the last empty one
abbrev pub next_begun : Option Version → Bool → Listed → Bool
next_begun systemd had one = not (is_reset one) && (had || begins systemd one)

abbrev pub begun_behind : Option Version → Bool → Listed → Bool
begun_behind systemd had one = cond (counts systemd one) (next_begun systemd had one) had
