-- The first lines of a report: the unit, and notes on parts of its files that have no effect.
use Rattle.std.specs.Prelude.{ℕ, List, [], ◌∷◌, ◌++◌, codes, slice_get}
use Rattle.std.specs.Fmt.{decimal}
use Rattle.std.specs.Option.{option_map_or}
use Rattle.exposure_score.specs.text_forms.Escaped.{escaped_word}
use Rattle.exposure_score.specs.dropin_merge.declared.resolved.UnitFile.{UnitFile}
use Rattle.exposure_score.specs.unit_grammar.Causes.{cause_text}
use Rattle.exposure_score.specs.dropin_merge.declared.unit_values.value.FileNote.{FileNote}

-- the unit that is reported on
abbrev pub unit_line : List ℕ → List ℕ
unit_line unit = codes "unit " ++ (escaped_word unit ++ 10 ∷ [])

-- where the file of this number lies, numbered from 0
abbrev pub path_at : List UnitFile → ℕ → List ℕ
path_at files at = option_map_or (λ file. file.path) (slice_get files at) []

-- the file, the line, and why something there has no effect
abbrev pub note_line : List UnitFile → FileNote → List ℕ
note_line files note =
    codes "note " ++ (escaped_word (path_at files note.place.file) ++
    (codes " " ++ (decimal note.place.line ++ (codes " " ++ (cause_text note.cause ++ 10 ∷ [])))))
