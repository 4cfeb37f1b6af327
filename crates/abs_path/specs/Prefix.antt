-- A path leads to another by whole parts, and the other has a rest after it.
use Rattle.std.specs.Prelude.{◌≡◌, ◌==◌, ◌&&◌, ◌<◌, ◌≤◌, ⊤, ℕ, Bool, true, false, not, cond, nat_eq, List, [], ◌∷◌, ◌++◌, length, drop}
use Rattle.std.specs.Prelude.{Option, Some, None, option_and_then, Result, Ok, Err}
use Rattle.std.specs.Str.{bytes_eq, byte as ascii}
use Rattle.std.specs.List.{starts_with}
use Rattle.std.specs.Cmp.Lexicographic.{pointwise}
use Rattle.abs_path.specs.declared.error.JoinError.{JoinError}
use Rattle.abs_path.specs.declared.error.JoinError.TheVariants.{TooLong, Memory}
use Rattle.abs_path.specs.Paths.{Path, tail_of, parts_of, is_normal}

-- by whole parts, the first path is the second or leads to it
abbrev pub is_prefix : Path → Path → Bool
is_prefix [] path = true
is_prefix (part ∷ front) [] = false
is_prefix (part ∷ front) (first ∷ path) = bytes_eq part first && is_prefix front path

-- the two paths have the same parts
abbrev pub is_same : Path → Path → Bool
is_same one other = pointwise bytes_eq one other

-- the other path leads to this path and is not this path
abbrev pub is_below : Path → Path → Bool
is_below path other = is_prefix other path && not (is_same other path)

-- the rest of a path after a prefix of it
abbrev pub rest_of : Path → Path → Path
rest_of front path = drop (length front) path

-- the text of the rest of a path after a prefix of it
abbrev pub rest_text : Path → Path → Option (List ℕ)
rest_text front path = cond (is_prefix front path) (Some (tail_of (rest_of front path))) None

-- a text that a path may have after a prefix: nothing, or normal parts, each after a slash
pub record IsRest (text : List ℕ) : Type 0 where
  pub parts : is_normal (parts_of text) ≡ true
  pub whole : tail_of (parts_of text) ≡ text

-- the path with the rest's parts after it, or more than 512 bytes
abbrev pub Joins : Path → List ℕ → Result Path JoinError → Type 0
Joins path rest (Ok joined) = (joined ≡ path ++ parts_of rest) × (length (tail_of joined) ≤ 512)
Joins path rest (Err TooLong) = 512 < length (tail_of (path ++ parts_of rest))
Joins path rest (Err Memory) = ⊤

-- a text that is empty, or begins with a slash
abbrev pub is_behind : List ℕ → Bool
is_behind [] = true
is_behind (byte ∷ text) = byte == ascii "/"

abbrev pub behind_only : List ℕ → Option (List ℕ)
behind_only rest = cond (is_behind rest) (Some rest) None

-- the text after a front, if the text begins with that front
abbrev pub after : List ℕ → List ℕ → Option (List ℕ)
after front text = cond (starts_with nat_eq text front) (Some (drop (length front) text)) None

-- the rest of a text after a front, if it is empty or begins with a slash
abbrev pub behind_text : List ℕ → List ℕ → Option (List ℕ)
behind_text front text = option_and_then behind_only (after front text)
