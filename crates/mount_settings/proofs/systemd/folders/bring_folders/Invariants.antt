use Rattle.std.proofs.Common.{◌≡◌, ◌++◌, take}
use Rattle.mount_settings.specs.systemd.Folders.{brought_folders}
use Rattle.mount_settings.proofs.systemd.folders.bring_folders.Given as goal

abbrev pub invariant-loop-path : goal.invariant-loop-path
invariant-loop-path l = l.mentions.items ≡ l.fn.mentions.items ++ brought_folders l.site l.switches l.keys (take l.path-index l.paths)
