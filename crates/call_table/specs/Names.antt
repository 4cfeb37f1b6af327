-- Some words of calls.txt name a call, a group or a family.
use Rattle.std.specs.Prelude.{ℕ, ◌==◌, ◌&&◌, ◌||◌, not, cond, Bool, List, [], ◌∷◌, length, Option, Some, None}
use Rattle.std.specs.List.{list_all}
use Rattle.std.specs.Char.{is_ascii_alphanumeric}

-- a name has ASCII letters, digits, `_` and `-`
abbrev pub is_name_byte : ℕ → Bool
is_name_byte byte = is_ascii_alphanumeric byte || (byte == 95 || byte == 45)

-- a name has one or more of these characters, and nothing else
abbrev pub is_name : List ℕ → Bool
is_name word = not (length word == 0) && list_all is_name_byte word

-- the text after `@` at the front of a word, which names a group
abbrev pub behind_at : List ℕ → Option (List ℕ)
behind_at [] = None
behind_at (byte ∷ name) = cond (byte == 64) (Some name) None
