use Rattle.std.proofs.Common.{◌≡◌, ◌++◌, map}
use Rattle.toml.specs.View.{view}
use Rattle.sample_inputs.proofs.RowsSoFar.{objects_so_far}
use Rattle.sample_inputs.proofs.rows.push_folder.Given as goal

abbrev pub invariant-loop-object : goal.invariant-loop-object
invariant-loop-object l = map view l.rows.items ≡ map view l.fn.rows.items ++ objects_so_far l.n l.folder l.object
