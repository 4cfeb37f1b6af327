-- The listed mounts that systemd makes, or its first refusal (systemd's namespace.c, `apply_mounts` and `apply_one_mount`). The host is a
-- function `row_at`: it says if there is an object at a path, and then if it is a directory.
use Rattle.std.specs.Prelude.{◌&&◌, ◌||◌, Bool, true, not, cond, nat_le, is_some, List, [], ◌∷◌, ◌++◌, filter, find, length}
use Rattle.std.specs.Prelude.{Option, Some, None, option_and_then, Result, Ok, Err}
use Rattle.std.specs.List.{list_all, filter_map}
use Rattle.std.specs.Option.{option_map, option_map_or}
use Rattle.abs_path.specs.Paths.{Path, tail_of}
use Rattle.abs_path.specs.Prefix.{is_prefix, is_same, is_below, rest_of}
use Rattle.path_settings.specs.declared.systemd.modes.MountMode.{MountMode}
use Rattle.path_settings.specs.declared.systemd.modes.MountMode.TheVariants.{Hidden, Bind, DisconnectedTmp, RecursiveBind, PrivateTmp}
use Rattle.path_settings.specs.declared.systemd.modes.MountMode.TheVariants.{PrivateDevices, Tmpfs, Node}
use Rattle.path_settings.specs.declared.systemd.entries.MountEntry.{MountEntry}
use Rattle.path_settings.specs.declared.view_map.rules.Beneath.{Beneath}
use Rattle.path_settings.specs.declared.view_map.rules.Beneath.TheVariants as beneath
use Rattle.path_settings.specs.declared.view_map.rules.Fate.{Fate}
use Rattle.path_settings.specs.declared.view_map.rules.Fate.TheVariants as fate
use Rattle.path_settings.specs.view_map.Kept.{Host, Refusal, missing, wrong_kind, beneath_by, is_kept}
use Rattle.path_settings.specs.view_map.Object.{Object, on_host, empty, hidden}
use Rattle.path_settings.specs.view_map.Rules.{unless_optional, bind_fate, tmp_fate}
use Rattle.path_settings.specs.systemd.Modes.{source_of, hides, is_node, is_origin}
use Rattle.path_settings.specs.systemd.Listed.{is_vain, listed}

-- the object that a mount of this mode puts at a path that its place leads to; a node is the host's object at the same path
abbrev pub object_by : MountMode → Path → Path → Object
object_by Hidden place path = hidden
object_by (Bind source read_only) place path = on_host (source ++ rest_of place path)
object_by DisconnectedTmp place path = empty
object_by (RecursiveBind source read_only) place path = on_host (source ++ rest_of place path)
object_by PrivateTmp place path = empty
object_by PrivateDevices place path = empty
object_by (Tmpfs read_only no_exec no_suid) place path = empty
object_by _ place path = on_host path

-- the path on the host that an entry binds from
abbrev pub source_path : MountEntry → Option Path
source_path one = cond (is_node one.mode) (Some one.path) (source_of one.mode)

-- whether there is an object at this path, and then whether it is a directory
abbrev pub source_row : Host → MountEntry → Option Bool
source_row row_at one = option_and_then row_at (source_path one)

-- the source of an entry exists, if it binds from one
abbrev pub has_source : Host → MountEntry → Bool
has_source row_at one = option_map_or (λ path. is_some (row_at path)) (source_path one) true

-- the nodes of the private /dev, whatever else is mounted over them
abbrev pub nodes : List MountEntry → List MountEntry
nodes entries = filter (λ one. is_node one.mode && not (is_vain entries one)) entries

-- the mounts that put an object at their paths
abbrev pub puts : Host → MountEntry → Bool
puts row_at one = (is_origin one.mode && not (hides one.mode)) && has_source row_at one

abbrev pub putting : Host → List MountEntry → List MountEntry
putting row_at entries = filter (puts row_at) (listed entries ++ nodes entries)

-- the entry passes a test, and its path is as long as that of each other entry that passes
abbrev pub is_longest_such : (MountEntry → Bool) → List MountEntry → MountEntry → Bool
is_longest_such test entries one =
    test one && list_all (λ other. not (test other) || nat_le (length (tail_of other.path)) (length (tail_of one.path))) entries

-- the longest of the entries that pass, and the first on a tie
abbrev pub longest_such : (MountEntry → Bool) → List MountEntry → Option MountEntry
longest_such test entries = find (is_longest_such test entries) entries

-- the entry lies beneath what is mounted at the path: its own path is above, or it is the node at the path
abbrev pub lies_beneath : Path → MountEntry → Bool
lies_beneath path one = is_below path one.path || (is_node one.mode && is_prefix one.path path)

abbrev pub object_from : Option MountEntry → Path → Object
object_from None path = on_host path
object_from (Some one) path = object_by one.mode one.path path

-- the object at a path before anything is mounted there: the longest mount beneath that puts an object decides
abbrev pub object_in : List MountEntry → Path → Object
object_in putting path = object_from (longest_such (lies_beneath path) putting) path

abbrev pub beneath_in : Host → List MountEntry → Path → Beneath
beneath_in row_at putting path = beneath_by row_at (object_in putting path)

abbrev pub beneath_object : Host → List MountEntry → Path → Object
beneath_object row_at entries path = object_in (putting row_at entries) path

abbrev pub beneath_at : Host → List MountEntry → Path → Beneath
beneath_at row_at entries path = beneath_in row_at (putting row_at entries) path

-- what mounts the object that is there needs one; a file system that is empty has none
abbrev pub there_fate : Beneath → Bool → Fate
there_fate (beneath.Row is_dir) optional = fate.Kept
there_fate _ optional = unless_optional optional fate.NoRow

abbrev pub mode_fate : Option Bool → Beneath → Bool → MountMode → Fate
mode_fate source here optional (Bind at read_only) = bind_fate source here optional
mode_fate source here optional (RecursiveBind at read_only) = bind_fate source here optional
mode_fate source here optional Node = bind_fate source here optional
mode_fate source here optional DisconnectedTmp = tmp_fate here
mode_fate source here optional PrivateTmp = tmp_fate here
mode_fate source here optional PrivateDevices = tmp_fate here
mode_fate source here optional (Tmpfs read_only no_exec no_suid) = tmp_fate here
mode_fate source here optional _ = there_fate here optional

abbrev pub fate_of : Option Bool → Beneath → MountEntry → Fate
fate_of source here one = mode_fate source here one.optional one.mode

abbrev pub fate_in : Host → List MountEntry → MountEntry → Fate
fate_in row_at putting one = fate_of (source_row row_at one) (beneath_in row_at putting one.path) one

abbrev pub fate_at : Host → List MountEntry → MountEntry → Fate
fate_at row_at entries one = fate_in row_at (putting row_at entries) one

-- a refusal names the path, or the source that is missing
abbrev pub refusal_by : MountEntry → Fate → Option Refusal
refusal_by one fate.Kept = None
refusal_by one fate.Dropped = None
refusal_by one fate.NoSource = option_map missing (source_path one)
refusal_by one fate.NoRow = Some (missing one.path)
refusal_by one fate.WrongKind = Some (wrong_kind one.path)

abbrev pub refusals : Host → List MountEntry → List Refusal
refusals row_at entries = filter_map (λ one. refusal_by one (fate_at row_at entries one)) (listed entries)

-- the node of the private /dev at a path, if its object exists
abbrev pub node_in : Host → List MountEntry → Path → Option MountEntry
node_in row_at nodes path = find (λ one. is_same one.path path && has_source row_at one) nodes

-- a listed entry that is mounted; if it is not, the node at its path stays
abbrev pub mounted_in : Host → List MountEntry → List MountEntry → MountEntry → Option MountEntry
mounted_in row_at putting nodes one = cond (is_kept (fate_in row_at putting one)) (Some one) (node_in row_at nodes one.path)

-- the entries that are mounted, in byte order of their paths
abbrev pub made : Host → List MountEntry → List MountEntry
made row_at entries = filter_map (mounted_in row_at (putting row_at entries) (nodes entries)) (listed entries)

abbrev pub unless_refused : List Refusal → List MountEntry → Result (List MountEntry) Refusal
unless_refused [] found = Ok found
unless_refused (refusal ∷ refusals) found = Err refusal

-- the same, or the refusal at the first path in byte order that has one
abbrev pub made_of : Host → List MountEntry → Result (List MountEntry) Refusal
made_of row_at entries = unless_refused (refusals row_at entries) (made row_at entries)
