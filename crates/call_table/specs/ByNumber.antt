-- The positions of lines, ascending by number.
use Rattle.std.specs.Prelude.{ℕ, List, map}
use Rattle.std.specs.List.{enumerate_from}
use Rattle.std.specs.List.Sorted.{IsPermutation, IsStrictlyIncreasing}
use Rattle.call_table.specs.declared.listed.CallLine.{CallLine}
use Rattle.call_table.specs.declared.by_number.Numbered.{Numbered}

abbrev pub numbered_at : ℕ × CallLine → Numbered
numbered_at place = record { number = place.1.number; position = place.0 }

-- each line's number with its position from 0, in the order of the lines
abbrev pub numbered_lines : List CallLine → List Numbered
numbered_lines lines = map numbered_at (enumerate_from 0 lines)

-- the order has each line once, and its numbers ascend
pub record AscendsByNumber (lines : List CallLine) (order : List Numbered) : Type 0 where
  pub each_once : IsPermutation (numbered_lines lines) order
  pub ascending : IsStrictlyIncreasing (map (λ numbered. numbered.number) order)
