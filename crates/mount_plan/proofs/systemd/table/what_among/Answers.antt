use Rattle.path_settings.proofs.OfAbsPath.Prefixes.{prefix_itself}
use Rattle.mount_plan.proofs.systemd.table.what_among.Goals as goal

pub shown_by-requires-clause-leads : goal.shown_by-requires-clause-leads
shown_by-requires-clause-leads c = prefix_itself c.args.one.now.path
