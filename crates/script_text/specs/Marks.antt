-- The text after a mark at the front of a word, and the text before a mark at its end.
use Rattle.std.specs.Prelude.{ℕ, ◌==◌, cond, Option, Some, None, option_and_then, List, [], ◌∷◌}
use Rattle.std.specs.Option.{option_map}
use Rattle.std.specs.List.{slice_split}

abbrev pub behind : ℕ → List ℕ → Option (List ℕ)
behind mark [] = None
behind mark (byte ∷ rest) = cond (byte == mark) (Some rest) None

abbrev pub with_byte : ℕ → Option (List ℕ) → Option (List ℕ)
with_byte byte rest = option_map (λ bytes. byte ∷ bytes) rest

abbrev pub before : ℕ → List ℕ → Option (List ℕ)
before mark [] = None
before mark (byte ∷ []) = cond (byte == mark) (Some []) None
before mark (byte ∷ other ∷ rest) = with_byte byte (before mark (other ∷ rest))

-- the text after `#`
abbrev pub behind_hash : List ℕ → Option (List ℕ)
behind_hash word = behind 35 word

-- the text between `[` and `]`
abbrev pub between_brackets : List ℕ → Option (List ℕ)
between_brackets word = option_and_then (before 93) (behind 91 word)

-- the text between commas; an empty text has nothing
abbrev pub between_commas : List ℕ → List (List ℕ)
between_commas [] = []
between_commas (byte ∷ text) = slice_split (λ byte. byte == 44) (byte ∷ text)
