use Rattle.mount_plan.specs.Host.{host_of}
use Rattle.plan_command.proofs.Plans.{plan_is, plan_stops}
use Rattle.plan_command.proofs.planning.plan_mounts.Goals as goal

pub returns-in-Ok-clause-plan_or_first_refusal : goal.returns-in-Ok-clause-plan_or_first_refusal
returns-in-Ok-clause-plan_or_first_refusal c =
    plan_is c.args.unit.now (host_of c.args.site.now) c.args.mentions.now c.in-Ok.table c.in-Ok.ensures.table_or_first_refusal
    c.in-Ok.ensures.keeps_by_rules c.in-Ok.ensures.finds_as_view c.in-Ok.ensures.places_are_mentioned
    (c.in-Ok.ensures.can_be_mounted c.requires.paths_are_short)
