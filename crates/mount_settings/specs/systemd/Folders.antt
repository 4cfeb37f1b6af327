-- Folder keys in systemd 252 and 257: the folders are shown at their own paths and at their links (systemd.exec(5),
-- RuntimeDirectory=, StateDirectory=).
use Rattle.std.specs.Prelude.{ℕ, ◌&&◌, not, Bool, cond, codes, List, ◌++◌, [], ◌∷◌, Option, Some, None, filter, flat_map, map}
use Rattle.std.specs.Prelude.{option_and_then, unwrap_or}
use Rattle.std.specs.List.{cons_option}
use Rattle.path_settings.specs.abs_path.Paths.{Path}
use Rattle.path_settings.specs.abs_path.Prefix.{rest_text}
use Rattle.path_settings.specs.declared.keys.PathKey.{PathKey}
use Rattle.path_settings.specs.declared.keys.PathKey.TheVariants.{StateDirectory, RuntimeDirectory, CacheDirectory, LogsDirectory}
use Rattle.path_settings.specs.declared.mentions.Kind.{Kind}
use Rattle.path_settings.specs.declared.mentions.Kind.TheVariants.{Bind}
use Rattle.path_settings.specs.declared.mentions.Mention.{Mention}
use Rattle.path_settings.specs.Keys.{is_implied}
use Rattle.path_settings.specs.Mentions.{source_of}
use Rattle.path_settings.specs.SettingPaths.{setting_path}
use Rattle.site_table.specs.Table.{Site}
use Rattle.mount_settings.specs.declared.written.WrittenPath.{WrittenPath}
use Rattle.mount_settings.specs.declared.protections.Switches.{Switches}
use Rattle.mount_settings.specs.declared.systemd.keys.FurtherKeys.{FurtherKeys}
use Rattle.mount_settings.specs.Effects.{has_row}

-- the paths of folder keys
abbrev pub folders : List WrittenPath → List WrittenPath
folders paths = filter (λ path. is_implied path.key) paths

-- the path of the object that a mention shows: another path, or its own
abbrev pub shown_path : Mention → Path
shown_path mention = unwrap_or (source_of mention.kind) mention.path

-- with DynamicUser= the folder is below `private` (systemd.exec(5), DynamicUser=)
abbrev pub private_below : List ℕ → Path → Option Path
private_below folder path =
    option_and_then (λ front. option_and_then (λ rest. setting_path (folder ++ codes "/private" ++ rest)) (rest_text front path))
    (setting_path folder)

-- the folders of the keys that have a folder `private`. /run has one only if RuntimeDirectoryPreserve= keeps the folders
abbrev pub runtime_folder : Bool → Option (List ℕ)
runtime_folder kept = cond kept (Some (codes "/run")) None

abbrev pub folder_of_users : Bool → PathKey → Option (List ℕ)
folder_of_users kept StateDirectory = Some (codes "/var/lib")
folder_of_users kept CacheDirectory = Some (codes "/var/cache")
folder_of_users kept LogsDirectory = Some (codes "/var/log")
folder_of_users kept RuntimeDirectory = runtime_folder kept
folder_of_users kept _ = None

abbrev pub private_path : Switches → FurtherKeys → WrittenPath → Option Path
private_path switches keys path =
    cond switches.dynamic_user (option_and_then (λ folder. private_below folder (shown_path path.mention))
    (folder_of_users keys.keeps_runtime path.key)) None

-- the folder below `private` replaces the folder itself if the site has the former and lacks the latter
abbrev pub stands_for : Site → Path → Path → Bool
stands_for site private own = has_row site private && not (has_row site own)

abbrev pub chosen_path : Site → Path → Option Path → Path
chosen_path site own None = own
chosen_path site own (Some private) = cond (stands_for site private own) private own

abbrev pub from_source : Path → Kind → Kind
from_source source (Bind own read_only recursive) = Bind source read_only recursive
from_source source kind = kind

abbrev pub from_path : Path → Mention → Mention
from_path source mention = record { path = mention.path; kind = from_source source mention.kind; optional = mention.optional }

abbrev pub placed_folder : Site → Switches → FurtherKeys → WrittenPath → Mention
placed_folder site switches keys path =
    from_path (chosen_path site (shown_path path.mention) (private_path switches keys path)) path.mention

-- a mention is skipped if the site does not have its object
abbrev pub is_there : Site → Mention → Bool
is_there site mention = has_row site (shown_path mention)

abbrev pub brought_folders : Site → Switches → FurtherKeys → List WrittenPath → List Mention
brought_folders site switches keys paths = filter (is_there site) (map (placed_folder site switches keys) (folders paths))

-- the paths at which the rows of the site decide about a folder
abbrev pub asked_at : Mention → Path → Mention
asked_at mention path = record { path = path; kind = mention.kind; optional = mention.optional }

abbrev pub asked_folder : Switches → FurtherKeys → WrittenPath → List Mention
asked_folder switches keys path =
    asked_at path.mention (shown_path path.mention)
    ∷ map (asked_at path.mention) (cons_option (private_path switches keys path) [])

abbrev pub asked_folders : Switches → FurtherKeys → List WrittenPath → List Mention
asked_folders switches keys paths = flat_map (asked_folder switches keys) (folders paths)
