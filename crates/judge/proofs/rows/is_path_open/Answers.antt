use Rattle.std.proofs.Common.{◌∙◌, ap, sym}
use Rattle.ceilings.specs.kernel_laws.Bound.{can_reach, if_listed, power_of}
use Rattle.ceilings.specs.kernel_laws.Launched.{launch_of}
use Rattle.judge.proofs.rows.is_path_open.Goals as goal

pub can_reach-requires-clause-of_the_row : goal.can_reach-requires-clause-of_the_row
can_reach-requires-clause-of_the_row c = c.leads_to.ensures.of_the_row
    (launch_of c.args.world.now) c.in-Some.row.now c.requires.its_own_ceiling (sym c.in-Some.ensures)

pub returns-in-None : goal.returns-in-None
returns-in-None c =
    let launch = launch_of c.args.world.now in
    ap (if_listed (can_reach launch (power_of launch) c.args.wish)) c.in-None.ensures

pub returns-in-Some : goal.returns-in-Some
returns-in-Some c =
    let launch = launch_of c.args.world.now in
    c.can_reach.ensures ∙ ap (if_listed (can_reach launch (power_of launch) c.args.wish)) c.in-Some.ensures
