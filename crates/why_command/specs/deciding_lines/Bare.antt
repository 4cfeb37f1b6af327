-- All assignments in force of a unit, but those that say what is launched (systemd.service(5), ExecStart=).
use Rattle.std.specs.Prelude.{◌&&◌, ◌||◌, not, Bool, codes, if◌then◌else◌, List, [], ◌∷◌, ◌++◌, flat_map}
use Rattle.std.specs.Str.{bytes_eq}
use Rattle.asked_service.specs.dropin_merge.declared.resolved.Resolved.{Resolved}
use Rattle.why_command.specs.deciding_lines.unit_lines.Lines.{lines_of}
use Rattle.why_command.specs.declared.deciding_lines.unit_lines.line.UnitLine.{UnitLine}
use Rattle.asked_service.specs.dropin_merge.declared.unit_values.value.Place.{Place}

abbrev pub is_command : UnitLine → Bool
is_command line = bytes_eq line.key (codes "ExecStart")

-- systemd.exec(5), USER/GROUP IDENTITY: as whom the service runs
abbrev pub is_user : UnitLine → Bool
is_user line =
    ((bytes_eq line.key (codes "User") || bytes_eq line.key (codes "Group")) || bytes_eq line.key (codes "DynamicUser"))
    || bytes_eq line.key (codes "SupplementaryGroups")

-- systemd.exec(5), CAPABILITIES and SECURITY: which privileges it has or can get
abbrev pub is_power : UnitLine → Bool
is_power line =
    (bytes_eq line.key (codes "NoNewPrivileges") || bytes_eq line.key (codes "CapabilityBoundingSet"))
    || bytes_eq line.key (codes "AmbientCapabilities")

abbrev pub is_identity : UnitLine → Bool
is_identity line = is_user line || is_power line

abbrev pub is_other : UnitLine → Bool
is_other line = not (is_command line) && not (is_identity line)

abbrev pub place_if : Bool → UnitLine → List Place
place_if is_wanted line = if is_wanted then line.place ∷ [] else []

-- the places of the lines that pass a test
abbrev pub places_of : (UnitLine → Bool) → List UnitLine → List Place
places_of test lines = flat_map (λ line. place_if (test line) line) lines

-- the places in the order of files and lines, but the lines that say who the service is follow all others
abbrev pub bare_places : Resolved → List Place
bare_places unit = places_of is_other (lines_of unit) ++ places_of is_identity (lines_of unit)
