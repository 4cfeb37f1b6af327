-- An assignment of which it is known whether it is in force.
use Rattle.std.specs.Prelude.{◌≡◌, ◌&&◌, Bool, Option}
use Rattle.std.specs.Str.{bytes_eq}
use Rattle.asked_service.specs.unit_grammar.declared.unit.Assignment.{Assignment}
use Rattle.asked_service.specs.unit_names.declared.version.Version.{Version}
use Rattle.why_command.specs.declared.deciding_lines.unit_lines.in_force.Seen.{Seen}
use Rattle.why_command.specs.deciding_lines.unit_lines.Lines.{is_in_force}

abbrev pub IsSeen : Option Version → Seen → Type 0
IsSeen systemd seen = seen.is_in_force ≡ is_in_force systemd seen.assignment.now

-- both are of one section, and set one key
abbrev pub has_same_key : Assignment → Assignment → Bool
has_same_key one other = bytes_eq one.section other.section && bytes_eq one.key other.key
