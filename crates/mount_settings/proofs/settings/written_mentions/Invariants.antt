use Rattle.std.proofs.Common.{◌≡◌, take}
use Rattle.mount_settings.specs.Settings.{as_written}
use Rattle.mount_settings.proofs.settings.written_mentions.Given as goal

abbrev pub invariant-loop-path : goal.invariant-loop-path
invariant-loop-path l = l.mentions.items ≡ as_written (take l.path-index l.paths)
