-- A unit whose files lack some of its assignments in force.
use Rattle.std.specs.Prelude.{ℕ, ◌==◌, ◌&&◌, not, Bool, if◌then◌else◌, Option, List, [], ◌∷◌, filter, map}
use Rattle.std.specs.List.{enumerate_from, list_any}
use Rattle.asked_service.specs.unit_grammar.declared.unit.Assignment.{Assignment}
use Rattle.asked_service.specs.dropin_merge.declared.resolved.Resolved.{Resolved}
use Rattle.asked_service.specs.dropin_merge.declared.resolved.UnitFile.{UnitFile}
use Rattle.asked_service.specs.dropin_merge.declared.unit_values.value.Place.{Place}
use Rattle.asked_service.specs.unit_names.declared.version.Version.{Version}
use Rattle.why_command.specs.deciding_lines.unit_lines.Lines.{is_in_force}

-- the same line of the same file
abbrev pub is_place : Place → Place → Bool
is_place one other = one.file == other.file && one.line == other.line

abbrev pub is_among : List Place → Place → Bool
is_among places place = list_any (λ one. is_place one place) places

-- these places, but for some of them
abbrev pub all_but : List Place → List Place → List Place
all_but some places = filter (λ place. not (is_among some place)) places

-- an assignment in force of the file with this number, from 0, which is at one of the places
abbrev pub is_taken : Option Version → List Place → ℕ → Assignment → Bool
is_taken systemd places number assignment = is_in_force systemd assignment && is_among places (record { file = number; line = assignment.line })

abbrev pub kept_of : Option Version → List Place → ℕ → Assignment → List Assignment
kept_of systemd places number assignment = if is_taken systemd places number assignment then [] else assignment ∷ []

-- what a file has left
abbrev pub left_of : Option Version → List Place → ℕ → List Assignment → List Assignment
left_of systemd places number assignments = filter (λ assignment. not (is_taken systemd places number assignment)) assignments

abbrev pub file_without : Option Version → List Place → ℕ × UnitFile → UnitFile
file_without systemd places one = record {
  path = one.1.path;
  text = record { assignments = left_of systemd places one.0 one.1.text.assignments; notes = one.1.text.notes };
}

-- the same unit without the assignments in force at these places
unfoldable pub without : List Place → Resolved → Resolved
without places unit = record unit { files = map (file_without unit.systemd places) (enumerate_from 0 unit.files) }
