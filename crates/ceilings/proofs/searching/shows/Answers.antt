use Rattle.std.proofs.Common.{◌∙◌, sym}
use Rattle.kernel_ways.specs.kern_mounts.Mounts.{steps_of}
use Rattle.ceilings.proofs.Leading.{kept_at, shows_own}
use Rattle.ceilings.proofs.searching.shows.Goals as goal

pub returns-else-search-at : goal.returns-else-search-at
returns-else-search-at c =
    let table = steps_of c.args.search.now.table.now in
    shows_own table c.args.row.now c.args.own c.args.at c.args.entry.now c.requires.own c.requires.entry c.in-Host.source c.in-Host.is
    (sym (kept_at table c.args.at c.args.entry.now c.args.search.now.moved.now _ c.args.search.now.of_the_table c.requires.entry)
    ∙ c.if-search-at.false)
