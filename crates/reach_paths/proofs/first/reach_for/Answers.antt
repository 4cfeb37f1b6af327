use Rattle.std.proofs.Common.{ap, ◌∙◌, sym, Some}
use Rattle.kernel_laws.specs.Reach.{reach_with}
use Rattle.kernel_laws.specs.kern_mounts.Mounts.{steps_of}
use Rattle.reach_paths.specs.Needs.{allows}
use Rattle.reach_paths.proofs.Found.{can_be_remounted, exactly_answered}
use Rattle.reach_paths.proofs.Serving.{first_answered}
use Rattle.reach_paths.proofs.first.reach_for.Goals as goal

pub returns-in-None-clause-first_that_leads_there : goal.returns-in-None-clause-first_that_leads_there
returns-in-None-clause-first_that_leads_there c =
    first_answered c.args.power (steps_of c.args.table.now) c.args.row.now (allows c.args.need) c.first_that_serves.result
    (c.first_that_serves.ensures ∙ ap (λ p. reach_with p (steps_of c.args.table.now) c.args.row.now (allows c.args.need)) (sym c.in-None.is))

pub returns-in-None-clause-exactly_where_it_can_be_found : goal.returns-in-None-clause-exactly_where_it_can_be_found
returns-in-None-clause-exactly_where_it_can_be_found c =
    exactly_answered c.args.power (steps_of c.args.table.now) c.args.row.now (allows c.args.need) (can_be_remounted c.args.need) c.first_that_serves.result
    (c.first_that_serves.ensures ∙ ap (λ p. reach_with p (steps_of c.args.table.now) c.args.row.now (allows c.args.need)) (sym c.in-None.is))

pub returns-in-Unmount-clause-first_that_leads_there : goal.returns-in-Unmount-clause-first_that_leads_there
returns-in-Unmount-clause-first_that_leads_there c =
    first_answered c.args.power (steps_of c.args.table.now) c.args.row.now (allows c.args.need) c.first_that_serves-in-Unmount.result
    (c.first_that_serves-in-Unmount.ensures ∙ ap (λ p. reach_with p (steps_of c.args.table.now) c.args.row.now (allows c.args.need)) (sym c.in-Unmount.is))

pub returns-in-Unmount-clause-exactly_where_it_can_be_found : goal.returns-in-Unmount-clause-exactly_where_it_can_be_found
returns-in-Unmount-clause-exactly_where_it_can_be_found c =
    exactly_answered c.args.power (steps_of c.args.table.now) c.args.row.now (allows c.args.need) (can_be_remounted c.args.need) c.first_that_serves-in-Unmount.result
    (c.first_that_serves-in-Unmount.ensures ∙ ap (λ p. reach_with p (steps_of c.args.table.now) c.args.row.now (allows c.args.need)) (sym c.in-Unmount.is))

pub returns-in-Mount-clause-exactly_where_it_can_be_found : goal.returns-in-Mount-clause-exactly_where_it_can_be_found
returns-in-Mount-clause-exactly_where_it_can_be_found c =
    exactly_answered c.args.power (steps_of c.args.table.now) c.args.row.now (allows c.args.need) (can_be_remounted c.args.need) (Some 0)
    (ap (λ p. reach_with p (steps_of c.args.table.now) c.args.row.now (allows c.args.need)) (sym c.in-Mount.is))
