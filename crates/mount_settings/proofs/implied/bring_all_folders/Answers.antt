use Rattle.path_settings.specs.declared.keys.PathKey.TheVariants.{StateDirectory, RuntimeDirectory, CacheDirectory, LogsDirectory}
use Rattle.mount_settings.specs.Written.{of_key}
use Rattle.mount_settings.specs.Effects.{stands}
use Rattle.mount_settings.proofs.Standing.{then_four}
use Rattle.mount_settings.proofs.implied.bring_all_folders.Goals as goal

pub returns : goal.returns
returns c =
    let paths = c.args.paths.now in
    then_four (stands c.args.site.now) (of_key StateDirectory paths) (of_key RuntimeDirectory paths) (of_key CacheDirectory paths)
    (of_key LogsDirectory paths)
    c.args.mentions.now.items c.bring_folders.new.mentions.items c.bring_folders-2.new.mentions.items c.bring_folders-3.new.mentions.items
    c.bring_folders-4.new.mentions.items c.bring_folders-4.result
    c.in_ok-bring_folders.ensures c.in_ok-bring_folders-2.ensures c.in_ok-bring_folders-3.ensures c.bring_folders-4.ensures
