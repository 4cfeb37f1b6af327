-- The rules of the lines of a table of calls, by their positions: the native ABI's lines, and the second ABI's.
use Rattle.std.specs.Prelude.{◌≡◌, map}
use Rattle.kernel_ways.specs.call_table.Table.{calls_in}
use Rattle.kernel_ways.specs.kernel_model.kernel_calls.Rules.{rule_of}
use Rattle.kernel_ways.specs.kernel_laws.Launched.{Launch}
use Rattle.ceilings.specs.declared.ruled.LineRules.{LineRules}

pub record AreRules (launch : Launch) (rules : LineRules) : Type 0 where
  pub native : rules.native.items ≡ map rule_of launch.calls.calls
  pub second : rules.second.items ≡ map rule_of (calls_in launch.calls 1)
