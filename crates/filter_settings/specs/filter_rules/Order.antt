-- The calls of a table, ascending by number.
use Rattle.std.specs.Prelude.{List, map}
use Rattle.std.specs.List.Sorted.{IsPermutation, IsStrictlyIncreasing}
use Rattle.call_table.specs.declared.listed.CallLine.{CallLine}

-- each call once, the numbers ascending
pub record Ascends (calls ordered : List CallLine) : Type 0 where
  pub each_once : IsPermutation calls ordered
  pub ascending : IsStrictlyIncreasing (map (λ call. call.number) ordered)
