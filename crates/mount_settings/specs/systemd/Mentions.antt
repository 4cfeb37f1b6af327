-- All entries that a unit's settings ask systemd 252 and 257 to mount (systemd.exec(5), Sandboxing).
use Rattle.std.specs.Prelude.{◌||◌, Bool, cond, List, [], ◌++◌, map, filter, flat_map, unwrap_or}
use Rattle.path_settings.specs.abs_path.Paths.{Path}
use Rattle.path_settings.specs.declared.systemd.entries.MountEntry.{MountEntry}
use Rattle.path_settings.specs.systemd.Modes.{source_of}
use Rattle.path_settings.specs.systemd.Written.{entry_of}
use Rattle.dropin_merge.specs.unit_names.declared.version.Version.{Version}
use Rattle.site_table.specs.Table.{Site}
use Rattle.mount_settings.specs.declared.written.WrittenPath.{WrittenPath}
use Rattle.mount_settings.specs.declared.protections.Protections.{Protections}
use Rattle.mount_settings.specs.declared.protections.Switches.{Switches}
use Rattle.mount_settings.specs.declared.systemd.keys.FurtherKeys.{FurtherKeys}
use Rattle.mount_settings.specs.Effects.{has_row}
use Rattle.mount_settings.specs.systemd.Folders.{brought_folders, asked_folders}
use Rattle.mount_settings.specs.systemd.OwnMounts.{has_own_mounts}
use Rattle.mount_settings.specs.systemd.Rows.{by_row, table, rows_on}

-- the entries of the table, at any path
abbrev pub by_table : Version → Switches → Protections → FurtherKeys → List MountEntry
by_table version switches protections keys = flat_map by_row (table (rows_on version switches protections keys))

abbrev pub stands : Site → MountEntry → Bool
stands site one = has_row site one.path

-- the path of the object that an entry shows: the source of a bind, or its own path
abbrev pub entry_shows : MountEntry → Path
entry_shows one = unwrap_or (source_of one.mode) one.path

abbrev pub shows_row : Site → MountEntry → Bool
shows_row site one = has_row site (entry_shows one)

-- the entries of the table and of folders, if the site has their objects
abbrev pub brought : Version → Site → Switches → Protections → FurtherKeys → List WrittenPath → List MountEntry
brought version site switches protections keys paths =
    filter (stands site) (by_table version switches protections keys) ++ map entry_of (brought_folders site switches keys paths)

-- a service without mounts of its own has no implied entries
unfoldable pub implied_of : Version → Site → Switches → Protections → FurtherKeys → List WrittenPath → List MountEntry
implied_of version site switches protections keys paths =
    cond (has_own_mounts version switches protections keys paths) (brought version site switches protections keys paths) []

-- NoNewPrivileges= or DynamicUser= sets no_new_privs, and then takes the privileges of programs from the mounts too
abbrev pub sets_no_new_privs : Switches → FurtherKeys → Bool
sets_no_new_privs switches keys = keys.no_new_privs || switches.dynamic_user

-- the paths at which the rows of the site decide about the implied entries
abbrev pub asked_of : Version → Switches → Protections → FurtherKeys → List WrittenPath → List Path
asked_of version switches protections keys paths =
    map (λ one. one.path) (by_table version switches protections keys)
    ++ map (λ mention. mention.path) (asked_folders switches keys paths)
