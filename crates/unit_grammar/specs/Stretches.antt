-- The joined lines of a file are stretches of its parts (systemd.syntax(7)).
use Rattle.std.specs.Prelude.{◌≡◌, ℕ, ◌&&◌, not, Bool, true, false, List, [], ◌∷◌, map, flat_map}
use Rattle.unit_grammar.specs.Spaces.{continues}
use Rattle.unit_grammar.specs.Lines.{file_parts, line_of}
use Rattle.unit_grammar.specs.declared.joined.Line.{Line}

-- a stretch has one or more parts, and each part except the last continues in the next line
abbrev pub is_stretch : List Line → Bool
is_stretch [] = false
is_stretch (part ∷ []) = true
is_stretch (part ∷ next ∷ parts) = continues part.text && is_stretch (next ∷ parts)

-- whether the last part of a stretch does not continue in the next line
abbrev pub ends_whole : List Line → Bool
ends_whole [] = false
ends_whole (part ∷ []) = not (continues part.text)
ends_whole (part ∷ next ∷ parts) = ends_whole (next ∷ parts)

-- every stretch ends whole, except that the file may end in the last one
abbrev pub are_stretches : List (List Line) → Bool
are_stretches [] = true
are_stretches (stretch ∷ []) = is_stretch stretch
are_stretches (stretch ∷ next ∷ stretches) = (is_stretch stretch && ends_whole stretch) && are_stretches (next ∷ stretches)

-- the parts of the file fall into such stretches, and each joined line is made of one stretch
pub record Joins (text : List ℕ) (lines : List Line) : Type 0 where
  pub stretches : List (List Line)
  pub well_formed : are_stretches stretches ≡ true
  pub all_parts : file_parts text ≡ flat_map (λ stretch. stretch) stretches
  pub made : lines ≡ map line_of stretches
