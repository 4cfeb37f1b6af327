use Rattle.std.proofs.Common.{◌+◌, ◌++◌, ◌∙◌, ap, sym, drop, map, option_map, List}
use Rattle.std.specs.List.{filter_map}
use Rattle.path_settings.specs.declared.systemd.entries.MountEntry.{MountEntry}
use Rattle.path_settings.specs.systemd.Made.{mounted_in}
use Rattle.mount_plan.specs.Host.{host_of}
use Rattle.mount_plan.proofs.EntriesMade.{adds_picked}
use Rattle.mount_plan.proofs.Keeping.{drop_lent}
use Rattle.mount_plan.proofs.systemd.making.made.Goals as goal

pub loop-one-preserved : goal.loop-one-preserved
loop-one-preserved c =
    let pick = mounted_in (host_of c.args.site.now) (map (λ one. one.now) c.args.putting.now) (map (λ one. one.now) c.args.nodes.now) in
    let old = map (λ one. one.now) c.loop-one.found.items in
    let rest = map (λ one. one.now) (drop (c.loop-one.one-index + 1) c.args.listed.now) in
    let next = drop_lent c.args.listed.now c.loop-one.one-index c.one-item.result c.loop-one-test.true c.one-item.is in
    adds_picked pick old (map (λ one. one.now) c.add_some.new.found.items) c.one-item.result.now rest
    (filter_map pick (map (λ one. one.now) c.args.listed.now)) (option_map (λ one. one.now) c.mounted_in.result) c.mounted_in.ensures
    c.in_ok-add_some.ensures
    (ap (λ (some : List MountEntry). old ++ filter_map pick some) (sym next) ∙ c.loop-one.invariant)
