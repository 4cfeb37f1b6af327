-- The mentions that protections and folder keys imply (systemd.exec(5), Sandboxing, StateDirectory=).
use Rattle.std.specs.Prelude.{List, [], ◌∷◌, ◌++◌, filter, flat_map}
use Rattle.path_settings.specs.declared.keys.PathKey.TheVariants.{StateDirectory, RuntimeDirectory, CacheDirectory, LogsDirectory}
use Rattle.path_settings.specs.declared.mentions.Mention.{Mention}
use Rattle.site_table.specs.Table.{Site}
use Rattle.mount_settings.specs.declared.written.WrittenPath.{WrittenPath}
use Rattle.mount_settings.specs.declared.protections.Protections.{Protections}
use Rattle.mount_settings.specs.declared.protections.Switches.{Switches}
use Rattle.mount_settings.specs.Written.{of_key}
use Rattle.mount_settings.specs.Effects.{stands}
use Rattle.mount_settings.specs.Table.{by_system, by_home, by_tmp, by_devices, by_tunables, by_modules, by_logs, by_control_groups}

abbrev pub joined : List (List Mention) → List Mention
joined groups = flat_map (λ group. group) groups

-- key by key, in the order of the manual page
abbrev pub by_files : Switches → Protections → List (List Mention)
by_files switches protections = by_system protections.protect_system ∷ by_home protections.protect_home ∷ by_tmp protections.private_tmp ∷
    by_devices switches.private_devices ∷ []

abbrev pub by_kernel : Switches → Protections → List (List Mention)
by_kernel switches protections =
    by_tunables protections.protect_kernel_tunables ∷ by_modules switches.protect_kernel_modules ∷ by_logs switches.protect_kernel_logs ∷
    by_control_groups protections.protect_control_groups ∷ []

-- the folders that the service may write to. The base profile does not read ConfigurationDirectory=
abbrev pub by_folders : List WrittenPath → List (List Mention)
by_folders paths = of_key StateDirectory paths ∷ of_key RuntimeDirectory paths ∷ of_key CacheDirectory paths ∷ of_key LogsDirectory paths
    ∷ []

-- all mentions that are implied, at any path
abbrev pub asked : Switches → Protections → List WrittenPath → List Mention
asked switches protections paths = joined (by_files switches protections) ++
    (joined (by_kernel switches protections) ++ joined (by_folders paths))

-- a mention is skipped if the site has no row at its path
unfoldable pub implied : Site → Switches → Protections → List WrittenPath → List Mention
implied site switches protections paths = filter (stands site) (asked switches protections paths)
