-- The mounts that the settings of a unit ask for, one for each path that a word or a protection mentions (systemd's namespace.c,
-- `MountEntry`).
use Rattle.std.specs.Prelude.{◌≡◌, ◌≤◌, ◌&&◌, Bool, true, not, List, length}
use Rattle.std.specs.List.{list_all}
use Rattle.abs_path.specs.Paths.{is_root}
use Rattle.path_settings.specs.Mentions.{is_path}
use Rattle.path_settings.specs.Short.{is_short_path}
use Rattle.path_settings.specs.declared.systemd.modes.MountMode.{MountMode}
use Rattle.path_settings.specs.declared.systemd.modes.MountMode.TheVariants.{Bind, RecursiveBind}
use Rattle.path_settings.specs.declared.systemd.entries.MountEntry.{MountEntry}
use Rattle.path_settings.specs.systemd.Modes.{is_origin}

-- no entry says which object is at the root
abbrev pub leaves_the_root : List MountEntry → Bool
leaves_the_root entries = list_all (λ one. not (is_root one.path && is_origin one.mode)) entries

abbrev pub has_whole_source : MountMode → Bool
has_whole_source (Bind source read_only) = is_path source
has_whole_source (RecursiveBind source read_only) = is_path source
has_whole_source _ = true

-- the path of an entry, and the source of a bind, is a path as it is kept
abbrev pub is_whole : MountEntry → Bool
is_whole one = is_path one.path && has_whole_source one.mode

-- there are at most 192 entries, and each is whole
pub record AreKept (entries : List MountEntry) : Type 0 where
  pub few : length entries ≤ 192
  pub whole : list_all is_whole entries ≡ true

abbrev pub has_short_source : MountMode → Bool
has_short_source (Bind source read_only) = is_short_path source
has_short_source (RecursiveBind source read_only) = is_short_path source
has_short_source _ = true

-- the path and the source of a bind have at most 250 bytes
abbrev pub is_short : MountEntry → Bool
is_short one = is_short_path one.path && has_short_source one.mode

abbrev pub AreShort : List MountEntry → Type 0
AreShort entries = list_all is_short entries ≡ true
