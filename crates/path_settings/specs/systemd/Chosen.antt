-- One mount for each path (systemd's namespace.c, `mount_path_compare` and `drop_duplicates`).
use Rattle.std.specs.Prelude.{◌&&◌, ◌||◌, Bool, not, nat_le, List, find, length, Option}
use Rattle.std.specs.List.{list_any, list_all}
use Rattle.abs_path.specs.Paths.{Path, tail_of}
use Rattle.abs_path.specs.Prefix.{is_same, is_below}
use Rattle.path_settings.specs.declared.systemd.modes.MountMode.{MountMode}
use Rattle.path_settings.specs.declared.systemd.entries.MountEntry.{MountEntry}
use Rattle.path_settings.specs.systemd.Modes.{rank}

-- the entry is at the path, and as strong as each other entry there
abbrev pub is_strongest_at : List MountEntry → Path → MountEntry → Bool
is_strongest_at entries path one =
    is_same one.path path && list_all (λ other. not (is_same other.path path) || nat_le (rank one.mode) (rank other.mode)) entries

-- the strongest of the entries at a path, and the first of equally strong ones
abbrev pub chosen_at : List MountEntry → Path → Option MountEntry
chosen_at entries path = find (is_strongest_at entries path) entries

-- the marks of all entries at the path are marks of the chosen one
abbrev pub is_marked_at : (MountMode → Bool) → List MountEntry → Path → Bool
is_marked_at marks entries path = list_any (λ one. is_same one.path path && marks one.mode) entries

-- the entry is above the path, and no other entry above has a longer path
abbrev pub is_nearest_above : List MountEntry → Path → MountEntry → Bool
is_nearest_above entries path one = is_below path one.path
    && list_all (λ other. not (is_below path other.path) || nat_le (length (tail_of other.path)) (length (tail_of one.path))) entries

-- some entry at the longest path above that has one
abbrev pub nearest_above : List MountEntry → Path → Option MountEntry
nearest_above entries path = find (is_nearest_above entries path) entries
