use Rattle.std.proofs.Common.{◌≡◌, ℕ, List, drop, map}
use Rattle.std.specs.Option.{option_or}
use Rattle.std.specs.List.{Contains}
use Rattle.std.specs.String.{string_bytes}
use Rattle.dropin_merge.specs.Steps.{winner_at, at_place, KeepsTo}
use Rattle.dropin_merge.proofs.winners.take_names.Given as goal

abbrev pub invariant-loop-name : goal.invariant-loop-name
invariant-loop-name l = record {
  left : (q : List ℕ) → option_or (winner_at l.winners q) (at_place l.place (map string_bytes (drop l.name-index l.names)) q)
      ≡ option_or (winner_at l.fn.winners q) (at_place l.place (map string_bytes l.names) q);
  kept : (places : List (List ℕ)) → Contains places l.place → KeepsTo places l.fn.winners → KeepsTo places l.winners;
}
