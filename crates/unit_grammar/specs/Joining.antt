-- Lines are joined one by one.
use Rattle.std.specs.Prelude.{cond, Option, Some, None, List, [], ◌∷◌, ◌++◌}
use Rattle.unit_grammar.specs.Spaces.{continues, without_last}
use Rattle.unit_grammar.specs.declared.joined.Line.{Line}

-- a part that continues in the next line has a space in place of its last backslash
abbrev pub opened : Line → Line
opened line = record { number = line.number; text = without_last line.text ++ 32 ∷ [] }

-- a line is joined to the first of the lines that follow it
abbrev pub attached : Line → List Line → List Line
attached front [] = front ∷ []
attached front (line ∷ lines) = record { number = front.number; text = front.text ++ line.text } ∷ lines

-- the parts, joined from the end
abbrev pub joined : List Line → List Line
joined [] = []
joined (line ∷ lines) = cond (continues line.text) (attached (opened line) (joined lines)) (line ∷ joined lines)

-- the lines joined so far with the remaining lines: whole lines, and a line that has begun
abbrev pub with_open : Option Line → List Line → List Line
with_open None lines = lines
with_open (Some front) lines = attached front lines

-- the line that has begun with one more part
abbrev pub extended : Option Line → Line → Line
extended None part = part
extended (Some front) part = record { number = front.number; text = front.text ++ part.text }
