use Rattle.std.proofs.Common.{length, sym}
use Rattle.kern_mounts.specs.Mounts.{steps_of}
use Rattle.kern_mounts.proofs.Known.{known_last}
use Rattle.kern_mounts.proofs.Mounts.{steps_long}
use Rattle.kern_mounts.proofs.table.finding.last_leading.Goals as goal

pub returns-in-None : goal.returns-in-None
returns-in-None c =
    known_last (steps_of c.args.mounts.now) c.args.places.now c.args.known
    (length c.args.mounts.now) c.args.path.now c.last_leading.result c.requires
    (sym (steps_long c.args.mounts.now)) c.in-None.ensures c.last_leading.ensures.last_that_leads
