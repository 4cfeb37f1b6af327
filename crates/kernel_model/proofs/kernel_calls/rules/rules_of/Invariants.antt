use Rattle.std.proofs.Common.{◌≡◌, map, take}
use Rattle.kernel_model.specs.kernel_calls.Rules.{rule_of}
use Rattle.kernel_model.proofs.kernel_calls.rules.rules_of.Given as goal

abbrev pub invariant-loop-line : goal.invariant-loop-line
invariant-loop-line l = l.rules.items ≡ map rule_of (take l.line-index l.lines)
