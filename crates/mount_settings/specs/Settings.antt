-- All mentions of a unit's settings, in their order.
use Rattle.std.specs.Prelude.{false, not, List, [], ◌++◌, map, filter, Option, Some, None}
use Rattle.path_settings.specs.abs_path.Paths.{Path}
use Rattle.path_settings.specs.declared.mentioned.Mentioned.{Mentioned}
use Rattle.path_settings.specs.declared.mentioned.Mentioned.TheVariants.{Base, Systemd}
use Rattle.path_settings.specs.declared.mentions.Mention.{Mention}
use Rattle.path_settings.specs.declared.systemd.entries.MountEntry.{MountEntry}
use Rattle.path_settings.specs.Keys.{is_implied}
use Rattle.path_settings.specs.systemd.Written.{entry_of}
use Rattle.dropin_merge.specs.declared.resolved.Resolved.{Resolved}
use Rattle.dropin_merge.specs.unit_names.declared.version.Version.{Version}
use Rattle.site_table.specs.Table.{Site}
use Rattle.mount_settings.specs.declared.written.WrittenPath.{WrittenPath}
use Rattle.mount_settings.specs.declared.protections.Protections.{Protections}
use Rattle.mount_settings.specs.declared.protections.Switches.{Switches}
use Rattle.mount_settings.specs.Protections.{unit_protections, in_effect}
use Rattle.mount_settings.specs.declared.systemd.keys.FurtherKeys.{FurtherKeys}
use Rattle.mount_settings.specs.Implied.{asked, implied}
use Rattle.mount_settings.specs.systemd.Keys.{unit_keys}
use Rattle.mount_settings.specs.systemd.Mentions.{asked_of, implied_of, sets_no_new_privs}

-- folders are implied; all other paths are in written order
abbrev pub as_written : List WrittenPath → List Mention
as_written paths = map (λ path. path.mention) (filter (λ path. not (is_implied path.key)) paths)

-- the written mentions, followed by the implied ones
unfoldable pub mentions_of : Site → Switches → Protections → List WrittenPath → List Mention
mentions_of site switches protections paths = as_written paths ++ implied site switches protections paths

-- the protections of a unit that are in effect
abbrev pub protections_of : Resolved → Switches → Protections
protections_of unit switches = in_effect switches.dynamic_user (unit_protections unit)

-- the same by the rules of a version of systemd
unfoldable pub entries_by : Version → Site → Switches → Protections → FurtherKeys → List WrittenPath → List MountEntry
entries_by version site switches protections keys paths =
    map entry_of (as_written paths) ++ implied_of version site switches protections keys paths

-- all mentions of a unit with these switches and written paths, by the rules of the systemd that reads the unit
abbrev pub mentions_in : Option Version → Resolved → Site → Switches → List WrittenPath → Mentioned
mentions_in None unit site switches paths = Base (mentions_of site switches (protections_of unit switches) paths)
mentions_in (Some version) unit site switches paths =
    Systemd (entries_by version site switches (protections_of unit switches) (unit_keys unit) paths)
    (sets_no_new_privs switches (unit_keys unit))

abbrev pub all_mentions : Resolved → Site → Switches → List WrittenPath → Mentioned
all_mentions unit site switches paths = mentions_in unit.systemd unit site switches paths

-- nothing is mentioned, by any rules
abbrev pub nothing_in : Option Version → Mentioned
nothing_in None = Base []
nothing_in (Some version) = Systemd [] false

-- the paths at which the rows of the site decide about the implied mentions
abbrev pub deciding_in : Option Version → Resolved → Switches → List WrittenPath → List Path
deciding_in None unit switches paths = map (λ mention. mention.path) (asked switches (protections_of unit switches) paths)
deciding_in (Some version) unit switches paths = asked_of version switches (protections_of unit switches) (unit_keys unit) paths

abbrev pub deciding : Resolved → Switches → List WrittenPath → List Path
deciding unit switches paths = deciding_in unit.systemd unit switches paths
