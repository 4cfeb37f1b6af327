use Rattle.std.proofs.Common.{◌∙◌, List, ap, subst, sym}
use Rattle.path_settings.specs.declared.mentions.Mention.{Mention}
use Rattle.mount_plan.specs.Host.{host_of}
use Rattle.mount_plan.specs.Plan.{places_of, table_of}
use Rattle.mount_plan.specs.Short.{HaveShortHosts}
use Rattle.mount_plan.proofs.Hosts.{short_rows}
use Rattle.mount_plan.proofs.PlanLaws.{leave_the_root}
use Rattle.mount_plan.proofs.ShortPaths.{short_places}
use Rattle.mount_plan.proofs.Planned.{are_whole, are_normal}
use Rattle.mount_plan.proofs.planning.plan_of.Goals as goal

pub table_of-requires : goal.table_of-requires
table_of-requires c =
    let mentions = c.args.mentions.now in
    let whole = are_whole mentions c.requires.whole in
    subst (λ (kept : List Mention). HaveShortHosts kept (places_of kept)) (sym c.deref.ensures.value)
    (short_places (host_of c.args.site.now) mentions c.in_ok-kept.kept.items
    (short_rows c.args.site.now c.rows-rows.ensures.holds_of_each_site) whole (are_normal mentions whole)
    (leave_the_root mentions c.requires.root_is_the_hosts) c.in_ok-kept.ensures)

pub returns : goal.returns
returns c = (
  c.in_ok-kept.kept.items,
  c.in_ok-kept.ensures,
  c.new.ensures.holds_them ∙ c.in_ok-steps.ensures ∙ ap (table_of (host_of c.args.site.now)) c.deref.ensures.value,
)
