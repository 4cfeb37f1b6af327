use Rattle.std.proofs.Common.{◌≡◌, ◌++◌, take}
use Rattle.std.specs.Prelude.{filter}
use Rattle.mount_settings.specs.Written.{of_key}
use Rattle.mount_settings.specs.Effects.{stands}
use Rattle.mount_settings.proofs.implied.bring_folders.Given as goal

abbrev pub invariant-loop-path : goal.invariant-loop-path
invariant-loop-path l = l.mentions.items ≡ l.fn.mentions.items ++ filter (stands l.site) (of_key l.key (take l.path-index l.paths))
