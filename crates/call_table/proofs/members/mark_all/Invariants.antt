use Rattle.std.proofs.Common.{◌≡◌, ◌<◌, ℕ, false, length, get_or, take}
use Rattle.std.specs.Prelude.{◌==◌, ◌||◌}
use Rattle.std.specs.List.{list_any}
use Rattle.call_table.proofs.members.mark_all.Given as goal

abbrev pub invariant-loop-position : goal.invariant-loop-position
invariant-loop-position l =
    (at : ℕ) → at < length l.initial.marks → get_or l.marks at false
    ≡ (get_or l.initial.marks at false || list_any (λ position. position == at) (take l.position-index l.positions))
