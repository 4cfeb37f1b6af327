-- The mounts that systemd makes at all, one for a path: the others are hidden, or say nothing new (systemd's namespace.c,
-- `drop_inaccessible` and `drop_nop`).
use Rattle.std.specs.Prelude.{◌&&◌, ◌||◌, Bool, not, cond, List, map, Option, Some, None, option_and_then}
use Rattle.std.specs.List.{list_any, filter_map}
use Rattle.std.specs.Option.{option_map_or}
use Rattle.abs_path.specs.Paths.{Path}
use Rattle.abs_path.specs.Prefix.{is_below}
use Rattle.abs_path.specs.ByteOrder.{in_byte_order}
use Rattle.path_settings.specs.declared.systemd.entries.MountEntry.{MountEntry}
use Rattle.path_settings.specs.systemd.Modes.{hides, is_node, is_private_devices, grants_the_same}
use Rattle.path_settings.specs.systemd.Chosen.{chosen_at, nearest_above}

-- `drop_inaccessible`: nothing is mounted below an inaccessible path
abbrev pub is_covered : List MountEntry → Path → Bool
is_covered entries path = list_any (λ other. hides other.mode && is_below path other.path) entries

-- the entry that is chosen at the longest path above that has one
abbrev pub chosen_above : List MountEntry → Path → Option MountEntry
chosen_above entries path = option_and_then (λ near. chosen_at entries near.path) (nearest_above entries path)

-- `drop_nop`: the path above makes its files read-only, or writable, in the same way. `mount_private_dev`: the nodes are a part of the
-- private /dev
abbrev pub is_vain_below : MountEntry → MountEntry → Bool
is_vain_below one over = grants_the_same one.mode over.mode || (is_node one.mode && not (is_private_devices over.mode))

-- the entry says nothing new after the chosen one above it
abbrev pub is_vain : List MountEntry → MountEntry → Bool
is_vain entries one = option_map_or (is_vain_below one) (chosen_above entries one.path) (is_node one.mode)

abbrev pub unless_vain : List MountEntry → MountEntry → Option MountEntry
unless_vain entries one = cond (is_vain entries one) None (Some one)

abbrev pub listed_at : List MountEntry → Path → Option MountEntry
listed_at entries path = cond (is_covered entries path) None (option_and_then (unless_vain entries) (chosen_at entries path))

-- the paths in byte order, each once
abbrev pub paths_of : List MountEntry → List Path
paths_of entries = in_byte_order (map (λ one. one.path) entries)

-- the entries that are left, in byte order of their paths
abbrev pub listed : List MountEntry → List MountEntry
listed entries = filter_map (listed_at entries) (paths_of entries)
