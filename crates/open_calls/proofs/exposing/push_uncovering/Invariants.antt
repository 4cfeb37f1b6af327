use Rattle.std.proofs.Common.{◌≡◌, ◌≤◌, ◌++◌}
use Rattle.ceilings.specs.kern_mounts.Mounts.{steps_of}
use Rattle.open_calls.specs.Firsts.{place_in}
use Rattle.open_calls.proofs.Uncovering.{calls_from}
use Rattle.open_calls.proofs.exposing.push_uncovering.Given as goal

-- the calls for the entries from this number on
abbrev pub invariant-loop-at : goal.invariant-loop-at
invariant-loop-at l = (l.from ≤ l.at) ×
    (l.calls.items ≡ l.initial.calls.items ++ calls_from (place_in l.first) l.path (steps_of l.table) l.at)
