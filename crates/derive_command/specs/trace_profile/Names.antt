-- Lists of names, each by the place of its first line.
use Rattle.std.specs.Prelude.{◌≡◌, ℕ, ◌==◌, Bool, true, false, not, List, filter, slice_get}
use Rattle.std.specs.List.{All}
use Rattle.std.specs.List.Sorted.{IsStrictlyIncreasing}
use Rattle.std.specs.Option.{option_map_or}
use Rattle.asked_service.specs.call_table.Table.{Table}
use Rattle.derive_command.specs.trace_profile.Extended.{is_first_line}

-- the names but one
abbrev pub without : ℕ → List ℕ → List ℕ
without name names = filter (λ one. not (one == name)) names

-- the place is marked
abbrev pub is_marked : List Bool → ℕ → Bool
is_marked marks place = option_map_or (λ mark. mark) (slice_get marks place) false

-- names of the table, each by its first line, in the order of the file
pub record AreNames (table : Table) (names : List ℕ) : Type 0 where
  pub first_lines : All (λ place. is_first_line table place ≡ true) names
  pub in_order : IsStrictlyIncreasing names
