use Rattle.std.proofs.Common.{sym}
use Rattle.abs_path.specs.Paths.{parts_of}
use Rattle.kern_mounts.proofs.Paths.{long_by_length}
use Rattle.kern_mounts.proofs.table.bind.is_long.Goals as goal

pub returns : goal.returns
returns c = long_by_length c.args.onto.now (parts_of c.args.rest.now) c.tail_len.result c.args.rest.now c.tail_len.ensures.length
    (sym c.requires.is_rest.whole)
