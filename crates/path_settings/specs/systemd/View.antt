-- The view of a service at a path in systemd 252 and 257 is one choice: the longest made mount that leads to the path says which object is
-- there and how it may be used. systemd makes each listed path a mount of its own before it sets any flag, and its remounts stop at
-- these mounts (systemd's namespace.c, `make_read_only` and `make_noexec`), so none of them inherits a flag from above.
use Rattle.std.specs.Prelude.{◌&&◌, ◌||◌, Bool, false, not, cond, is_some, unwrap_or, List, ◌++◌, filter, Option, Some, None}
use Rattle.std.specs.List.{list_any}
use Rattle.std.specs.Option.{option_map_or}
use Rattle.abs_path.specs.Paths.{Path}
use Rattle.abs_path.specs.Prefix.{is_prefix, rest_of}
use Rattle.path_settings.specs.declared.systemd.modes.MountMode.{MountMode}
use Rattle.path_settings.specs.declared.systemd.modes.OwnFlags.{OwnFlags}
use Rattle.path_settings.specs.declared.systemd.entries.MountEntry.{MountEntry}
use Rattle.path_settings.specs.view_map.Kept.{Host}
use Rattle.path_settings.specs.view_map.Object.{Object, on_host, object_behind}
use Rattle.path_settings.specs.Sight.{Sight}
use Rattle.path_settings.specs.systemd.Modes.{is_node, is_private_devices, is_left, is_origin, marks_read_only, marks_no_exec, marks_exec}
use Rattle.path_settings.specs.systemd.Modes.{begins_with, no_own_flags}
use Rattle.path_settings.specs.systemd.Chosen.{is_marked_at, nearest_above}
use Rattle.path_settings.specs.systemd.Made.{object_by, has_source, nodes, longest_such, beneath_object, made}

-- the object at the path of a made entry
abbrev pub object_of : Host → List MountEntry → MountEntry → Object
object_of row_at entries one = cond (is_origin one.mode) (object_by one.mode one.path one.path) (beneath_object row_at entries one.path)

-- the mount does not begin as what is there anyway, and leads to the path
abbrev pub begins_for : Path → MountEntry → Bool
begins_for path one = is_prefix one.path path && is_some (begins_with one.mode)

-- the mounts that may begin so
abbrev pub beginning : Host → List MountEntry → List MountEntry
beginning row_at entries = made row_at entries ++ filter (has_source row_at) (nodes entries)

-- the flags at the path before any is set: the longest such mount decides
abbrev pub begins_by : Option MountEntry → OwnFlags
begins_by found = option_map_or (λ one. unwrap_or (begins_with one.mode) no_own_flags) found no_own_flags

abbrev pub begins_at : Host → List MountEntry → Path → OwnFlags
begins_at row_at entries path = begins_by (longest_such (begins_for path) (beginning row_at entries))

-- the flags that keys set at the private /dev hold for its nodes too
abbrev pub is_marked_over : (MountMode → Bool) → List MountEntry → MountEntry → Bool
is_marked_over marks entries one = is_node one.mode
    && option_map_or (λ near. is_marked_at (λ mode. not (is_private_devices mode) && marks mode) entries near.path)
    (nearest_above entries one.path) false

abbrev pub is_marked : (MountMode → Bool) → List MountEntry → MountEntry → Bool
is_marked marks entries one = is_marked_at marks entries one.path || is_marked_over marks entries one

-- `make_read_only`
abbrev pub is_read_only : List MountEntry → MountEntry → Bool
is_read_only entries one = not (is_left one.mode) && is_marked marks_read_only entries one

-- `make_noexec`: a mark that forbids to execute files prevails over one that allows it
abbrev pub set_no_exec : List MountEntry → MountEntry → Bool → Bool
set_no_exec entries one begins = is_marked marks_no_exec entries one || (begins && not (is_marked_at marks_exec entries one.path))

abbrev pub is_no_exec : Host → List MountEntry → MountEntry → Bool
is_no_exec row_at entries one = cond (is_left one.mode) (begins_at row_at entries one.path).no_exec
    (set_no_exec entries one (begins_at row_at entries one.path).no_exec)

-- a mount at the path or above it is not left as it is
abbrev pub is_changed_over : Path → MountEntry → Bool
is_changed_over path one = is_prefix one.path path && not (is_left one.mode)

-- `make_nosuid`: if NoNewPrivileges= or DynamicUser= is on, each mount that is not left as it is, and each mount below it, takes the
-- privileges of programs away
abbrev pub set_no_suid : Bool → List MountEntry → Path → Bool → Bool
set_no_suid no_new_privs made path begins = begins || (no_new_privs && list_any (is_changed_over path) made)

abbrev pub is_no_suid : Host → Bool → List MountEntry → MountEntry → Bool
is_no_suid row_at no_new_privs entries one =
    set_no_suid no_new_privs (made row_at entries) one.path (begins_at row_at entries one.path).no_suid

-- what the service sees at a path that the entry's path leads to
abbrev pub sight_by : Host → Bool → List MountEntry → MountEntry → Path → Sight
sight_by row_at no_new_privs entries one path = record {
  object = object_behind (object_of row_at entries one) (rest_of one.path path);
  read_only = is_read_only entries one;
  no_exec = is_no_exec row_at entries one;
  no_suid = is_no_suid row_at no_new_privs entries one;
}

-- without a made mount the path is the host's, and can be written and executed, and programs there give privileges
abbrev pub sight_from : Host → Bool → List MountEntry → Option MountEntry → Path → Sight
sight_from row_at no_new_privs entries None path =
    record { object = on_host path; read_only = false; no_exec = false; no_suid = false }
sight_from row_at no_new_privs entries (Some one) path = sight_by row_at no_new_privs entries one path

abbrev pub leads_to : Path → MountEntry → Bool
leads_to path one = is_prefix one.path path

-- the view, by whether NoNewPrivileges= or DynamicUser= is on
abbrev pub view : Host → Bool → List MountEntry → Path → Sight
view row_at no_new_privs entries path =
    sight_from row_at no_new_privs entries (longest_such (leads_to path) (made row_at entries)) path
