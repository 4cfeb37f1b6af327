use Rattle.std.proofs.Common.{map}
use Rattle.toml.specs.View.{view}
use Rattle.site_table.specs.Owners.{is_wrong, refusal_of}
use Rattle.site_table.proofs.OwnersRead.{OwnersRead}
use Rattle.site_table.proofs.owners.read_owners.Given as goal

abbrev pub invariant-loop-at : goal.invariant-loop-at
invariant-loop-at g l = OwnersRead (is_wrong l.fn.kind) (refusal_of l.fn.kind) g.T.Telling.said_of (map view l.owners) l.at l.read
