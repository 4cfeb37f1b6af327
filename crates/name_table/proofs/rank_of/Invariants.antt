use Rattle.std.proofs.Common.{◌-◌, ◌≡◌, ◌<◌, ◌≤◌, ℕ, length, map, true, false}
use Rattle.name_table.specs.Before.{is_before}
use Rattle.name_table.specs.NameAt.{name_at}
use Rattle.name_table.proofs.rank_of.Given as goal

-- the names below low come before, and those from high on do not
abbrev pub invariant-loop-low : goal.invariant-loop-low
invariant-loop-low g l =
    let names = map g.L.Named.name_of l.lines in
    record {
      in_order : l.low ≤ l.high;
      in_range : l.high ≤ length l.places;
      before : (k : ℕ) → k < l.low → is_before (name_at names l.places k) l.name ≡ true;
      not_before : (k : ℕ) → l.high ≤ k → k < length l.places → is_before (name_at names l.places k) l.name ≡ false;
    }

abbrev pub decreases-loop-low : goal.decreases-loop-low
decreases-loop-low g l = l.high - l.low
