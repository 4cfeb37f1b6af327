use Rattle.std.proofs.Common.{map}
use Rattle.toml.specs.View.{view}
use Rattle.site_table.proofs.RowsRead.{RowsPlaced}
use Rattle.site_table.proofs.rows.all_rows.Given as goal

abbrev pub invariant-loop-at : goal.invariant-loop-at
invariant-loop-at l = RowsPlaced (map view l.rows) l.at l.ordered
