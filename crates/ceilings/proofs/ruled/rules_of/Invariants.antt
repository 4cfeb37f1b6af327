use Rattle.std.proofs.Common.{◌≡◌, ◌++◌, drop, map}
use Rattle.kernel_ways.specs.kernel_model.kernel_calls.Rules.{rule_of}
use Rattle.ceilings.proofs.ruled.rules_of.Given as goal

-- what was found, and what is left to find
abbrev pub invariant-loop-line : goal.invariant-loop-line
invariant-loop-line l = l.list.items ++ map rule_of (drop l.line-index l.lines) ≡ map rule_of l.lines
