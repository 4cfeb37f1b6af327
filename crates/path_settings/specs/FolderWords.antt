-- systemd.exec(5), StateDirectory= and the other folder keys, as systemd 252 and 257 read them: `NAME[:LINK]`, and in systemd 257
-- `NAME[:[LINK][:ro]]`. The folder NAME, below the folder of the key, is shown at its own path and at the path of LINK.
use Rattle.std.specs.Prelude.{ℕ, Bool, true, false, codes, List, [], ◌∷◌, Option, Some, None, option_and_then, if◌then◌else◌}
use Rattle.std.specs.Option.{option_map, option_map_or}
use Rattle.std.specs.Str.{bytes_eq}
use Rattle.abs_path.specs.Paths.{Path}
use Rattle.abs_path.specs.Prefix.{is_prefix}
use Rattle.path_settings.specs.declared.dialect.Dialect.{Dialect}
use Rattle.path_settings.specs.declared.dialect.Dialect.TheVariants.{Base, Systemd252, Systemd257}
use Rattle.path_settings.specs.declared.keys.PathKey.{PathKey}
use Rattle.path_settings.specs.declared.keys.PathKey.TheVariants.{StateDirectory, RuntimeDirectory, CacheDirectory, LogsDirectory}
use Rattle.path_settings.specs.declared.keys.PathKey.TheVariants.{ConfigurationDirectory}
use Rattle.path_settings.specs.declared.mentions.Kind.TheVariants.{Bind}
use Rattle.path_settings.specs.declared.mentions.Mention.{Mention}
use Rattle.path_settings.specs.SettingPaths.{setting_path}
use Rattle.path_settings.specs.Binds.{bind_pieces}
use Rattle.path_settings.specs.Folders.{is_relative, text_below}
use Rattle.path_settings.specs.Keys.{mention_of}

-- the folder of a key; its words name folders below this one
abbrev pub folder_of : PathKey → Option (List ℕ)
folder_of StateDirectory = Some (codes "/var/lib")
folder_of RuntimeDirectory = Some (codes "/run")
folder_of CacheDirectory = Some (codes "/var/cache")
folder_of LogsDirectory = Some (codes "/var/log")
folder_of ConfigurationDirectory = Some (codes "/etc")
folder_of _ = None

-- the words of ConfigurationDirectory= have no links
abbrev pub has_links : PathKey → Bool
has_links ConfigurationDirectory = false
has_links _ = true

-- the mark after the link says whether the folder is read-only; an empty mark says that it is not
abbrev pub mark_of : List ℕ → Option Bool
mark_of [] = Some false
mark_of (byte ∷ mark) = if bytes_eq (byte ∷ mark) (codes "ro") then Some true else None

-- the name, the link and the mark of a word that is split at its colons; an empty link means that there is none
abbrev pub marked : Bool → List ℕ → List ℕ → List ℕ → Option (List ℕ × List ℕ × Bool)
marked may_mark name link mark = if may_mark then option_map (λ read_only. (name, link, read_only)) (mark_of mark) else None

abbrev pub ends_of_folder : Bool → Bool → List (List ℕ) → Option (List ℕ × List ℕ × Bool)
ends_of_folder may_link may_mark (name ∷ []) = Some (name, [], false)
ends_of_folder may_link may_mark (name ∷ link ∷ []) = if may_link then Some (name, link, false) else None
ends_of_folder may_link may_mark (name ∷ link ∷ mark ∷ []) = if may_link then marked may_mark name link mark else None
ends_of_folder may_link may_mark _ = None

-- the path of a name below the folder of the key
abbrev pub path_below : List ℕ → List ℕ → Option Path
path_below folder name = if is_relative name then setting_path (text_below folder name) else None

-- the folder `private` and the paths below it belong to dynamic users (DynamicUser=)
abbrev pub is_private : List ℕ → Path → Bool
is_private folder path = option_map_or (λ front. is_prefix front path) (setting_path (text_below folder (codes "private"))) false

abbrev pub unless_private : List ℕ → Path → Option Path
unless_private folder path = if is_private folder path then None else Some path

abbrev pub public_path : List ℕ → List ℕ → Option Path
public_path folder name = option_and_then (unless_private folder) (path_below folder name)

abbrev pub shown_at : Bool → Path → Path → Mention
shown_at read_only source path = record { path = path; kind = Bind source read_only true; optional = true }

abbrev pub with_link : List ℕ → List ℕ → Bool → Path → Option (List Mention)
with_link folder [] read_only path = Some (shown_at read_only path path ∷ [])
with_link folder (byte ∷ link) read_only path =
    option_map (λ place. shown_at read_only path path ∷ shown_at read_only path place ∷ []) (path_below folder (byte ∷ link))

abbrev pub folder_mentions : List ℕ → List ℕ × List ℕ × Bool → Option (List Mention)
folder_mentions folder ends = option_and_then (with_link folder ends.1 ends.2) (public_path folder ends.0)

-- a word gives one mention, and a folder with a link gives two
abbrev pub one_mention : PathKey → List ℕ → Option (List Mention)
one_mention key word = option_map (λ mention. mention ∷ []) (mention_of key word)

abbrev pub word_below : Bool → PathKey → List ℕ → Option (List ℕ) → Option (List Mention)
word_below may_mark key word None = one_mention key word
word_below may_mark key word (Some folder) =
    option_and_then (folder_mentions folder) (ends_of_folder (has_links key) may_mark (bind_pieces word))

abbrev pub mentions_of_word : Dialect → PathKey → List ℕ → Option (List Mention)
mentions_of_word Base key word = one_mention key word
mentions_of_word Systemd252 key word = word_below false key word (folder_of key)
mentions_of_word Systemd257 key word = word_below true key word (folder_of key)
