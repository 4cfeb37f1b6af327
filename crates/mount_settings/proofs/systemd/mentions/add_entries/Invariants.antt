use Rattle.std.proofs.Common.{◌≡◌, ◌++◌, take, map}
use Rattle.path_settings.specs.systemd.Written.{entry_of}
use Rattle.mount_settings.proofs.systemd.mentions.add_entries.Given as goal

abbrev pub invariant-loop-mention : goal.invariant-loop-mention
invariant-loop-mention l = l.entries.items ≡ l.fn.entries.items ++ map entry_of (take l.mention-index l.mentions)
