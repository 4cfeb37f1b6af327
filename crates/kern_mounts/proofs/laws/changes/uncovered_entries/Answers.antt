use Rattle.kern_mounts.proofs.Unmounting.{uncovered_stands, stands_uncovered}
use Rattle.kern_mounts.proofs.Leaving.{ascending_is_ordered}
use Rattle.kern_mounts.proofs.laws.changes.uncovered_entries.Goals as goal

pub returns : goal.returns
returns c = record {
  uncovered_stands = uncovered_stands;
  stands_uncovered = stands_uncovered;
  ascending_is_ordered = ascending_is_ordered;
}
