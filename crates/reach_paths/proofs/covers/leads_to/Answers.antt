use Rattle.reach_paths.proofs.Covering.{leads_before, leads_behind}
use Rattle.std.proofs.Common.{◌∙◌}
use Rattle.reach_paths.proofs.covers.leads_to.Goals as goal

pub returns-in-None : goal.returns-in-None
returns-in-None c = c.is_prefix.ensures.by_whole_parts ∙ leads_before c.args.place.now c.args.front.now _ c.in-None.ensures.behind

pub returns-in-Some : goal.returns-in-Some
returns-in-Some c =
    c.goes_on.ensures ∙ leads_behind c.args.place.now c.args.front.now c.in-Some.further.now c.args.rest.now c.in-Some.ensures.normal
    c.in-Some.ensures.may_be_joined c.requires c.in-Some.ensures.behind
