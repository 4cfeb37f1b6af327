-- The last of some places that leads to a path, by whole parts.
use Rattle.std.specs.Prelude.{◌≡◌, ◌<◌, ◌+◌, ℕ, suc, max, Bool, true, false, cond, List, [], ◌∷◌, length, Option, Some, None}
use Rattle.std.specs.List.{AllWithin, HoldsAt}
use Rattle.abs_path.specs.Paths.{Path}
use Rattle.abs_path.specs.Prefix.{is_prefix, is_same}

-- the place of this number is of the kind, and no later place is
pub record IsLastAt (kind : Path → Bool) (places : List Path) (at : ℕ) : Type 0 where
  pub in_range : at < length places
  pub is_of : HoldsAt (λ place. kind place ≡ true) places at
  pub none_later : AllWithin (λ place. kind place ≡ false) places (at + 1) (length places)

-- the number of the last place of a kind, or None if no place is of the kind
abbrev pub IsLastOf : (Path → Bool) → List Path → Option ℕ → Type 0
IsLastOf kind places None = AllWithin (λ place. kind place ≡ false) places 0 (length places)
IsLastOf kind places (Some at) = IsLastAt kind places at

-- the number of the last place that leads to the path, or None if no place leads to it
abbrev pub IsLastLeading : List Path → Path → Option ℕ → Type 0
IsLastLeading places path number = IsLastOf (λ place. is_prefix place path) places number

-- the greater of two numbers, or the only one, if any
abbrev pub later : Option ℕ → Option ℕ → Option ℕ
later None other = other
later (Some one) None = Some one
later (Some one) (Some other) = Some (max one other)

-- one more than the number, or 0 if there is no number and the path is the place
abbrev pub behind_or : Option ℕ → Path → Path → Option ℕ
behind_or (Some at) place path = Some (suc at)
behind_or None place path = cond (is_same place path) (Some 0) None

-- the number of the last place that is the path
abbrev pub last_at : Path → List Path → Option ℕ
last_at path [] = None
last_at path (place ∷ places) = behind_or (last_at path places) place path
