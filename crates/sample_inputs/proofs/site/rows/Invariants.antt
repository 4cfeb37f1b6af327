use Rattle.std.proofs.Common.{◌≡◌, map}
use Rattle.toml.specs.View.{view}
use Rattle.sample_inputs.proofs.RowsSoFar.{rows_so_far}
use Rattle.sample_inputs.proofs.site.rows.Given as goal

abbrev pub invariant-loop-folder : goal.invariant-loop-folder
invariant-loop-folder l = map view l.rows.items ≡ rows_so_far l.n l.folder
