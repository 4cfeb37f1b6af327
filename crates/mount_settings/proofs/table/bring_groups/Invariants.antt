use Rattle.std.proofs.Common.{◌≡◌, ◌++◌, take}
use Rattle.std.specs.Prelude.{filter, flat_map}
use Rattle.mount_settings.specs.Effects.{stands}
use Rattle.mount_settings.specs.Table.{by_group}
use Rattle.mount_settings.proofs.table.bring_groups.Given as goal

abbrev pub invariant-loop-group : goal.invariant-loop-group
invariant-loop-group l = l.mentions.items ≡ l.fn.mentions.items ++ filter (stands l.site) (flat_map by_group (take l.group-index l.groups))
