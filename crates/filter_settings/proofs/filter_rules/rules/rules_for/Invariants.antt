use Rattle.std.proofs.Common.{◌≡◌, ◌++◌, map, drop}
use Rattle.std.specs.List.{filter_map}
use Rattle.filter_settings.specs.filter_rules.Rules.{rule_for}
use Rattle.filter_settings.proofs.filter_rules.rules.rules_for.Given as goal

abbrev pub invariant-loop-call : goal.invariant-loop-call
invariant-loop-call l =
    l.rules.items ++ filter_map (rule_for l.filter l.settings l.table) (map (λ call. call.now) (drop l.call-index l.calls))
    ≡ filter_map (rule_for l.filter l.settings l.table) (map (λ call. call.now) l.calls)
