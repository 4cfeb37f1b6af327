use Rattle.std.proofs.Common.{◌≡◌, ℕ, Bool, ◌++◌, map, filter, drop}
use Rattle.std.specs.List.{enumerate_from}
use Rattle.call_table.proofs.members.marked.Given as goal

abbrev pub invariant-loop-at : goal.invariant-loop-at
invariant-loop-at l =
    l.positions.items ++ map (λ (mark : ℕ × Bool). mark.0) (filter (λ mark. mark.1) (enumerate_from l.at (drop l.at l.marks)))
    ≡ map (λ (mark : ℕ × Bool). mark.0) (filter (λ mark. mark.1) (enumerate_from 0 l.marks))
