-- The joined lines of a text (systemd.syntax(7)): comments are left out, and a backslash at the end of a line joins the next line.
use Rattle.std.specs.Prelude.{ℕ, ◌==◌, Bool, cond, not, List, [], ◌∷◌, ◌++◌, map, filter, flat_map}
use Rattle.std.specs.List.{slice_split, onto_first, enumerate_from}
use Rattle.unit_grammar.specs.Spaces.{trim_start, continues, without_last, is_comment}
use Rattle.unit_grammar.specs.declared.joined.Line.{Line}

-- a line of the file, without its leading white space, and its number
abbrev pub part_of : ℕ × List ℕ → Line
part_of line = record { number = line.0; text = trim_start line.1 }

-- the lines that are no comments, numbered from this number; comments are skipped within a joined line too
abbrev pub parts_from : ℕ → List (List ℕ) → List Line
parts_from number lines = filter (λ part. not (is_comment part.text)) (map part_of (enumerate_from number lines))

-- the parts of a file, which is cut at each LF
abbrev pub file_parts : List ℕ → List Line
file_parts text = parts_from 1 (slice_split (λ byte. byte == 10) text)

-- cuts a list after each element that passes
abbrev pub split_after : {X : Type 0} → (X → Bool) → List X → List (List X)
split_after test [] = []
split_after test (x ∷ xs) = cond (test x) ((x ∷ []) ∷ split_after test xs) (onto_first x (split_after test xs))

-- a part that continues in the next line has a space in place of its last backslash
abbrev pub piece_of : Line → List ℕ
piece_of part = cond (continues part.text) (without_last part.text ++ 32 ∷ []) part.text

-- some parts as one line, which has the number of the first part
abbrev pub line_of : List Line → Line
line_of [] = record { number = 0; text = [] }
line_of (part ∷ parts) = record { number = part.number; text = flat_map piece_of (part ∷ parts) }

-- a joined line ends with the first part that does not continue in the next line
abbrev pub joined_lines : List ℕ → List Line
joined_lines text = map line_of (split_after (λ part. not (continues part.text)) (file_parts text))
