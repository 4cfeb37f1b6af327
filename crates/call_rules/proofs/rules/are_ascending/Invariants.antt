use Rattle.std.proofs.Common.{ℕ, ◌+◌, ◌<◌, map, slice_index}
use Rattle.call_rules.proofs.rules.are_ascending.Given as goal

abbrev pub invariant-loop-at : goal.invariant-loop-at
invariant-loop-at l =
    (k : ℕ) → k + 1 < l.at → slice_index (map (λ call. call.number) l.calls) k < slice_index (map (λ call. call.number) l.calls) (k + 1)
