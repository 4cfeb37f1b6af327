use Rattle.std.proofs.Common.{map}
use Rattle.toml.specs.View.{view}
use Rattle.site_table.proofs.Behind.{RowsBehind}
use Rattle.site_table.proofs.rows.rows_behind_folders.Given as goal

abbrev pub invariant-loop-value : goal.invariant-loop-value
invariant-loop-value l = RowsBehind (map view l.rows) l.value-index l.ordered
