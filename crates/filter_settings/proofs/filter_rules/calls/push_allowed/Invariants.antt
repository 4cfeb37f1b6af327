use Rattle.std.proofs.Common.{◌≡◌, ◌++◌, map, drop}
use Rattle.filter_settings.specs.filter_rules.Calls.{allows_call}
use Rattle.filter_settings.proofs.filter_rules.calls.push_allowed.Given as goal

abbrev pub invariant-loop-call : goal.invariant-loop-call
invariant-loop-call l =
    l.allowed.items ++ map (λ call. allows_call l.table l.settings call.name) (drop l.call-index l.calls)
    ≡ l.initial.allowed.items ++ map (λ call. allows_call l.table l.settings call.name) l.calls
