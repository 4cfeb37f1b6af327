use Rattle.std.proofs.Common.{ap, ◌∙◌, sym, drop, ◌+◌}
use Rattle.kernel_laws.specs.Reach.{shows_row}
use Rattle.kernel_laws.specs.kern_mounts.Mounts.{steps_of}
use Rattle.reach_paths.proofs.Looping.{shows_behind}
use Rattle.reach_paths.proofs.first.shows.Goals as goal

pub returns-else-uncover : goal.returns-else-uncover
returns-else-uncover c = λ entry e.
    shows_behind c.args.row.now (steps_of c.args.table.now) c.args.at c.entry-entry.result.now entry c.in-Host.source c.in-Some.rest.now
    c.is_covered.result c.entry-entry.ensures.entry e c.in-Host.is c.in-Some.ensures.behind c.in-Some.ensures.normal
    c.is_covered.ensures.some_place_leads_there
    ∙ ap (λ b. shows_row b entry (drop (c.args.at + 1) (steps_of c.args.table.now)) c.args.row.now entry.what) (sym c.if-uncover.false)
