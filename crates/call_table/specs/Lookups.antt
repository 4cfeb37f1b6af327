-- Lines of a table by name and by number.
use Rattle.std.specs.Prelude.{◌≡◌, ℕ, ◌==◌, ◌<◌, ◌≤◌, Bool, Option, Some, List, find, position, slice_get, IfSome}
use Rattle.std.specs.Str.{bytes_eq}
use Rattle.call_table.specs.declared.listed.CallLine.{CallLine}
use Rattle.call_table.specs.declared.listed.GroupLine.{GroupLine}

abbrev pub has_name : List ℕ → CallLine → Bool
has_name name line = bytes_eq name line.name

abbrev pub has_number : ℕ → CallLine → Bool
has_number number line = line.number == number

-- the first call or family of this name, and its position from 0
abbrev pub named : List ℕ → List CallLine → Option CallLine
named name lines = find (has_name name) lines

abbrev pub place_named : List ℕ → List CallLine → Option ℕ
place_named name lines = position (has_name name) lines

-- the first call or family of this number, and its position from 0
abbrev pub numbered : ℕ → List CallLine → Option CallLine
numbered number lines = find (has_number number) lines

abbrev pub place_numbered : ℕ → List CallLine → Option ℕ
place_numbered number lines = position (has_number number) lines

-- the first group of this name, without its `@`
abbrev pub group_named : List ℕ → List GroupLine → Option GroupLine
group_named name groups = find (λ group. bytes_eq name group.name) groups

-- each name and each number occurs once: the name and the number of a line find that line
pub record AreOnce (lines : List CallLine) : Type 0 where
  pub by_name : (at : ℕ) (line : CallLine) → slice_get lines at ≡ Some line → place_named line.name lines ≡ Some at
  pub by_number : (at : ℕ) (line : CallLine) → slice_get lines at ≡ Some line → place_numbered line.number lines ≡ Some at

-- the number is below 2^32, and the capability is from 0 to 40
pub record IsInRange (line : CallLine) : Type 0 where
  pub number : line.number < 4294967296
  pub capability : IfSome line.cap (λ number. number ≤ 40)
