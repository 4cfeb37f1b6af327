use Rattle.std.proofs.Common.{◌∙◌, sym, ap, option_map}
use Rattle.path_settings.specs.view_map.Scan.{shown}
use Rattle.mount_plan.proofs.Keeping.{above_leads}
use Rattle.mount_plan.proofs.kept.beneath_at.Goals as goal

pub beneath_mention-requires : goal.beneath_mention-requires
beneath_mention-requires c =
    above_leads c.args.kept.now c.args.path.now (c.in-Some.field-0-0, c.in-Some.mention.now)
    (sym c.origin_above.ensures.longest_above ∙ ap (option_map shown) c.in-Some.is)
