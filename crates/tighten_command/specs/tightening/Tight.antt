-- How far a unit can be tightened.
use Rattle.std.specs.Prelude.{◌≡◌, ◌≤◌, ℕ, false, List, [], ◌∷◌}
use Rattle.std.specs.List.{All}
use Rattle.std.specs.List.Sorted.{IsStrictlyIncreasing}
use Rattle.asked_service.specs.call_table.Table as calls
use Rattle.asked_service.specs.dropin_merge.declared.resolved.Resolved.{Resolved}
use Rattle.asked_service.specs.launching.Launched.{IsLaunchedUnit}
use Rattle.asked_service.specs.launcher.declared.launched.Launched.{Launched as Service}
use Rattle.asked_service.specs.site_table.Table.{Site}
use Rattle.asked_service.specs.Rows.{AreRowsOf, count_denied, count_open}
use Rattle.asked_service.specs.declared.rows.VerdictRow.{VerdictRow}
use Rattle.tighten_command.specs.tightening.Items.{has, tightened}
use Rattle.tighten_command.specs.tightening.Tried.{IsFirst, IsKept, IsShut, Refuses, Serves, Stops, Tried}
use Rattle.tighten_command.specs.declared.tightening.tight.Tight.{Tight}

-- so many questions of the unit's service are denied, and so many open
pub record AreCounts (unit : Resolved) (table : calls.Table) (site : Site) (denied open' : ℕ) : Type 0 where
  pub rows : List VerdictRow
  pub are_rows : AreRowsOf unit table site rows
  pub denied_are : denied ≡ count_denied rows
  pub open_are : open' ≡ count_open rows

-- the unit itself serves, and so does the unit with the items; with any other item it does not. Each item occurs once, in the
-- order of the lines. The counts are for the unit and for the unit with the items
pub record IsTight (tried : Tried) (tight : Tight) : Type 0 where
  pub itself : Serves tried []
  pub serves : Serves tried tight.items
  pub no_more : (item : ℕ) → 1 ≤ item → item ≤ 17 → has tight.items item ≡ false → Stops tried (item ∷ tight.items)
  pub are_items : All (λ item. (1 ≤ item) × (item ≤ 17)) tight.items
  pub in_order : IsStrictlyIncreasing tight.items
  pub before : AreCounts tried.unit tried.table tried.site tight.denied_before tight.open_before
  pub after : AreCounts (tightened tried.unit tight.items) tried.table tried.site tight.denied_after tight.open_after

-- the service of the unit itself denies this question first of those to be kept
pub record Denies (tried : Tried) (number : ℕ) : Type 0 where
  pub service : Service
  pub launched : IsLaunchedUnit tried.unit tried.table tried.site service
  pub first : IsFirst (IsKept service.world) (IsShut service.world) tried.keep number

-- it keeps them all, and this wish is the first that is refused
pub record RefusesWish (tried : Tried) (number : ℕ) : Type 0 where
  pub service : Service
  pub launched : IsLaunchedUnit tried.unit tried.table tried.site service
  pub refuses : Refuses tried service.world number
