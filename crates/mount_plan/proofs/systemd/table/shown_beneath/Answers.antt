use Rattle.std.proofs.Common.{◌∙◌, sym, ap, map, option_map}
use Rattle.mount_plan.proofs.EntriesMade.{longest_leads}
use Rattle.mount_plan.proofs.systemd.table.shown_beneath.Goals as goal

pub shown_by-requires-clause-leads : goal.shown_by-requires-clause-leads
shown_by-requires-clause-leads c =
    longest_leads (map (λ one. one.now) c.args.putting.now) c.args.path.now c.in-Some.one.now
    (sym c.longest_beneath.ensures ∙ ap (option_map (λ one. one.now)) c.in-Some.is)
