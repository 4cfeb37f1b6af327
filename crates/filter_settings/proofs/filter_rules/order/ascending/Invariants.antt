use Rattle.std.proofs.Common.{◌≡◌, map, take}
use Rattle.filter_settings.proofs.Ordered.{line_at}
use Rattle.filter_settings.proofs.filter_rules.order.ascending.Given as goal

abbrev pub invariant-loop-numbered : goal.invariant-loop-numbered
invariant-loop-numbered l = map (λ call. call.now) l.ordered.items ≡ map (line_at l.calls) (take l.numbered-index l.numbered-items)
