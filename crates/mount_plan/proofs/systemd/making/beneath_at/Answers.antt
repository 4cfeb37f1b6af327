use Rattle.std.proofs.Common.{◌∙◌, sym, ap, map, option_map}
use Rattle.mount_plan.proofs.EntriesMade.{longest_leads}
use Rattle.mount_plan.proofs.systemd.making.beneath_at.Goals as goal

pub beneath_entry-requires : goal.beneath_entry-requires
beneath_entry-requires c =
    longest_leads (map (λ one. one.now) c.args.putting.now) c.args.path.now c.in-Some.one.now
    (sym c.longest_beneath.ensures ∙ ap (option_map (λ one. one.now)) c.in-Some.is)
