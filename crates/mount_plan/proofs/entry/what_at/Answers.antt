use Rattle.std.proofs.Common.{◌∙◌, sym, ap, option_map}
use Rattle.path_settings.specs.view_map.Scan.{shown}
use Rattle.path_settings.proofs.Deciding.{origin_is}
use Rattle.path_settings.proofs.ViewMapLists.{all_trivial}
use Rattle.mount_plan.proofs.entry.what_at.Goals as goal

pub what_by-requires-clause-leads : goal.what_by-requires-clause-leads
what_by-requires-clause-leads c =
    (origin_is (λ mention. Unit {0}) c.args.kept.now c.args.place.now (c.in-Some.field-0-0, c.in-Some.mention.now)
    (all_trivial c.args.kept.now)
    (sym c.origin_at.ensures.longest_at_or_above ∙ ap (option_map shown) c.in-Some.is)).1
