use Rattle.std.proofs.Common.{◌≡◌, true, List, [], ◌++◌, ap, subst}
use Rattle.std.specs.Prelude.{filter, OnOk}
use Rattle.path_settings.specs.declared.mentions.Mention.{Mention}
use Rattle.mount_settings.specs.declared.effects.Effect.TheVariants.{NotExecutable, Empty, Shown}
use Rattle.mount_settings.specs.Effects.{stands}
use Rattle.mount_settings.specs.Table.{by_system, by_home, by_tmp, by_devices, when, devices, harmless_devices}
use Rattle.mount_settings.proofs.Standing.{then_brought, three_joined}
use Rattle.mount_settings.proofs.table.bring_files.Goals as goal

pub returns : goal.returns
returns c =
    let p = stands c.args.site.now in
    let tmp = by_tmp c.args.protections.private_tmp in
    let on = c.args.switches.private_devices in
    let home = by_home c.args.protections.protect_home in
    let P : List Mention → Type 0 = λ all. OnOk c.bring_groups.result (c.bring_groups.new.mentions.items ≡ c.bring_home.new.mentions.items ++ filter p all) in
    then_brought p (by_system c.args.protections.protect_system)
    (home ++ (tmp ++ (by_devices on ++ []))) c.args.mentions.now.items c.bring_system.new.mentions.items
    c.bring_groups.new.mentions.items c.bring_groups.result c.in_ok-bring_system.ensures
    (then_brought p home (tmp ++ (by_devices on ++ [])) c.bring_system.new.mentions.items c.bring_home.new.mentions.items
    c.bring_groups.new.mentions.items c.bring_groups.result c.in_ok-bring_home.ensures
    (subst P (ap (λ all. tmp ++ all)
    (three_joined (when on (Empty true) devices) (when on NotExecutable devices) (when on Shown harmless_devices) []))
    c.bring_groups.ensures))
