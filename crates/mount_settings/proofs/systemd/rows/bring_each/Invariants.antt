use Rattle.std.proofs.Common.{◌≡◌, ◌++◌, take}
use Rattle.std.specs.Prelude.{filter, flat_map}
use Rattle.mount_settings.specs.systemd.Mentions.{stands}
use Rattle.mount_settings.specs.systemd.Rows.{by_lent}
use Rattle.mount_settings.proofs.systemd.rows.bring_each.Given as goal

abbrev pub invariant-loop-row : goal.invariant-loop-row
invariant-loop-row l = l.entries.items ≡ l.fn.entries.items ++ filter (stands l.site) (flat_map by_lent (take l.row-index l.rows))
