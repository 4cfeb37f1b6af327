-- The order of call data by their words: the first word that differs decides.
use Rattle.std.specs.Prelude.{◌≡◌, ◌⊎◌, ◌<◌, ℕ, List, [], ◌∷◌}

-- the words are equal to the others, or less at the first place at which they differ
abbrev pub IsNotAfter : List ℕ → List ℕ → Type 0
IsNotAfter [] others = Unit {0}
IsNotAfter (word ∷ words) [] = ⊥
IsNotAfter (word ∷ words) (other ∷ others) = (word < other) ⊎ ((word ≡ other) × IsNotAfter words others)
