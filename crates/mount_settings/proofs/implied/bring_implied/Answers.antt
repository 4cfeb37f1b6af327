use Rattle.std.proofs.Common.{◌++◌}
use Rattle.mount_settings.specs.Effects.{stands}
use Rattle.mount_settings.specs.Implied.{joined, by_files, by_kernel, by_folders, implied}
use Rattle.mount_settings.proofs.Standing.{then_brought}
use Rattle.mount_settings.proofs.implied.bring_implied.Goals as goal

pub returns : goal.returns
unfolding implied
returns c =
    let p = stands c.args.site.now in
    let files = joined (by_files c.args.switches c.args.protections) in
    let kernel = joined (by_kernel c.args.switches c.args.protections) in
    let folders = joined (by_folders c.args.paths.now) in
    then_brought p files (kernel ++ folders) c.args.mentions.now.items c.bring_files.new.mentions.items
    c.bring_all_folders.new.mentions.items c.bring_all_folders.result c.in_ok-bring_files.ensures
    (then_brought p kernel folders c.bring_files.new.mentions.items c.bring_kernel.new.mentions.items
    c.bring_all_folders.new.mentions.items c.bring_all_folders.result c.in_ok-bring_kernel.ensures c.bring_all_folders.ensures)
