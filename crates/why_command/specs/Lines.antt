-- The lines of `why`.
use Rattle.std.specs.Prelude.{ℕ, List, [], ◌∷◌, ◌++◌, codes, filter, flat_map, if◌then◌else◌, length}
use Rattle.std.specs.Fmt.{decimal}
use Rattle.why_command.specs.declared.deciding_lines.reason.Reason.{Reason}
use Rattle.why_command.specs.declared.deciding_lines.reason.Reason.TheVariants as reason
use Rattle.asked_service.specs.dropin_merge.declared.resolved.Resolved.{Resolved}
use Rattle.asked_service.specs.dropin_merge.declared.resolved.UnitFile.{UnitFile}
use Rattle.asked_service.specs.report_text.Notes.{path_at}
use Rattle.asked_service.specs.text_forms.Escaped.{escaped_word}
use Rattle.why_command.specs.deciding_lines.unit_lines.Lines.{lines_of}
use Rattle.why_command.specs.deciding_lines.unit_lines.Without.{is_among}
use Rattle.why_command.specs.declared.deciding_lines.unit_lines.line.UnitLine.{UnitLine}
use Rattle.asked_service.specs.dropin_merge.declared.unit_values.value.Place.{Place}

-- the file, the number of the line, and what it assigns, so that each is one word
abbrev pub place_words : List UnitFile → UnitLine → List ℕ
place_words files line =
    escaped_word (path_at files line.place.file) ++
    (codes " " ++ (decimal line.place.line ++ (codes " " ++ (escaped_word line.key ++ (codes "=" ++ escaped_word line.value)))))

abbrev pub by_line : List UnitFile → UnitLine → List ℕ
by_line files line = codes "by " ++ (place_words files line ++ 10 ∷ [])

-- the lines at some places
abbrev pub lines_at : List Place → List UnitLine → List UnitLine
lines_at places lines = filter (λ line. is_among places line.place) lines

abbrev pub told_unless : List UnitFile → List Place → UnitLine → List ℕ
told_unless files places line = if is_among places line.place then by_line files line else []

abbrev pub by_lines : List UnitFile → List Place → List UnitLine → List ℕ
by_lines files places lines = flat_map (told_unless files places) lines

-- how many there are
abbrev pub lines_line : ℕ → List ℕ
lines_line count = codes "lines " ++ (decimal count ++ 10 ∷ [])

-- the assignments in force at some places, in the order of files and lines, and how many they are
abbrev pub lines_text : Resolved → List Place → List ℕ
lines_text unit places = by_lines unit.files places (lines_of unit) ++ lines_line (length (lines_at places (lines_of unit)))

-- what denies a question
abbrev pub reason_text : Resolved → Reason → List ℕ
reason_text unit reason.Nothing = codes "nothing" ++ 10 ∷ []
reason_text unit (reason.Lines places) = lines_text unit places.items
reason_text unit (reason.NotLaunched line) = codes "without " ++ line.items
