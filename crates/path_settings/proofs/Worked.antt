-- Examples of words of each key, which compute.
use Rattle.std.proofs.Common.{◌≡◌, ℕ, Bool, true, false, List, [], ◌∷◌, ◌++◌, Option, Some, None, refl}
use Rattle.std.specs.Prelude.{codes, replicate}
use Rattle.abs_path.specs.Paths.{Path}
use Rattle.path_settings.specs.declared.keys.PathKey.TheVariants.{ReadWritePaths, ReadOnlyPaths, InaccessiblePaths, ExecPaths, NoExecPaths}
use Rattle.path_settings.specs.declared.keys.PathKey.TheVariants.{BindPaths, BindReadOnlyPaths, TemporaryFileSystem, StateDirectory}
use Rattle.path_settings.specs.declared.keys.PathKey.TheVariants.{CacheDirectory, ConfigurationDirectory}
use Rattle.path_settings.specs.declared.mentions.Kind.{Kind}
use Rattle.path_settings.specs.declared.mentions.Kind.TheVariants.{Ro, Rw, Exec, NoExec, Hide, Tmp, Bind}
use Rattle.path_settings.specs.declared.mentions.Mention.{Mention}
use Rattle.path_settings.specs.SettingPaths.{setting_path}
use Rattle.path_settings.specs.declared.dialect.Dialect.TheVariants.{Base, Systemd252, Systemd257}
use Rattle.path_settings.specs.FolderWords.{mentions_of_word}
use Rattle.path_settings.specs.Keys.{mention_of}

abbrev srv : Path
srv = codes "srv" ∷ []

abbrev srv_a : Path
srv_a = codes "srv" ∷ codes "a" ∷ []

abbrev at : Path → Kind → Bool → Option Mention
at path kind optional = Some (record { path = path; kind = kind; optional = optional })

-- lists of paths: a `-` makes a path optional, a `+` changes nothing, and the two may not be in the other order
plain : mention_of ReadOnlyPaths (codes "/srv//a/.") ≡ at srv_a Ro false
plain = refl

optional : mention_of ReadWritePaths (codes "-/srv") ≡ at srv Rw true
optional = refl

with_plus : mention_of ExecPaths (codes "+/srv") ≡ at srv Exec false
with_plus = refl

optional_with_plus : mention_of NoExecPaths (codes "-+/srv") ≡ at srv NoExec true
optional_with_plus = refl

plus_first : mention_of NoExecPaths (codes "+-/srv") ≡ None
plus_first = refl

two_dashes : mention_of InaccessiblePaths (codes "--/srv") ≡ None
two_dashes = refl

relative : mention_of InaccessiblePaths (codes "srv") ≡ None
relative = refl

hidden : mention_of InaccessiblePaths (codes "/") ≡ at [] Hide false
hidden = refl

-- binds
source_alone : mention_of BindPaths (codes "/srv/a") ≡ at srv_a (Bind srv_a false true) false
source_alone = refl

with_place : mention_of BindReadOnlyPaths (codes "-/srv/a:/srv") ≡ at srv (Bind srv_a true true) true
with_place = refl

with_option : mention_of BindPaths (codes "/srv/a:/srv:norbind") ≡ at srv (Bind srv_a false false) false
with_option = refl

unknown_option : mention_of BindPaths (codes "/srv/a:/srv:ro") ≡ None
unknown_option = refl

four_pieces : mention_of BindPaths (codes "/srv/a:/srv:rbind:rbind") ≡ None
four_pieces = refl

empty_place : mention_of BindPaths (codes "/srv/a:") ≡ None
empty_place = refl

empty_place_with_option : mention_of BindPaths (codes "/srv/a::rbind") ≡ None
empty_place_with_option = refl

no_plus : mention_of BindPaths (codes "+/srv/a") ≡ None
no_plus = refl

-- empty file systems
writable : mention_of TemporaryFileSystem (codes "/srv:mode=0700,rox") ≡ at srv (Tmp false false false) false
writable = refl

read_only : mention_of TemporaryFileSystem (codes "/srv:mode=0700,ro") ≡ at srv (Tmp true false false) false
read_only = refl

no_dash : mention_of TemporaryFileSystem (codes "-/srv") ≡ None
no_dash = refl

-- folders below a given folder
state : mention_of StateDirectory (codes "web/a") ≡ at (codes "var" ∷ codes "lib" ∷ codes "web" ∷ codes "a" ∷ []) Rw true
state = refl

rooted : mention_of StateDirectory (codes "/web") ≡ None
rooted = refl

empty : mention_of CacheDirectory (codes "") ≡ None
empty = refl

climbing : mention_of CacheDirectory (codes "a/../b") ≡ None
climbing = refl

-- folders as a version of systemd reads them: with a link, and in systemd 257 with a mark
abbrev of_folder : Path → Path → Bool → Mention
of_folder source path read_only = record { path = path; kind = Bind source read_only true; optional = true }

abbrev state_of : List ℕ → Path
state_of name = codes "var" ∷ codes "lib" ∷ name ∷ []

folder_alone : mentions_of_word Systemd252 StateDirectory (codes "a") ≡ Some (of_folder (state_of (codes "a")) (state_of (codes "a")) false ∷ [])
folder_alone = refl

folder_and_link : mentions_of_word Systemd252 StateDirectory (codes "a:b") ≡ Some (of_folder (state_of (codes "a")) (state_of (codes "a")) false
    ∷ of_folder (state_of (codes "a")) (state_of (codes "b")) false ∷ [])
folder_and_link = refl

folder_marked : mentions_of_word Systemd257 StateDirectory (codes "a::ro") ≡ Some (of_folder (state_of (codes "a")) (state_of (codes "a")) true ∷ [])
folder_marked = refl

no_mark_before_257 : mentions_of_word Systemd252 StateDirectory (codes "a:b:ro") ≡ None
no_mark_before_257 = refl

other_mark : mentions_of_word Systemd257 StateDirectory (codes "a:b:rw") ≡ None
other_mark = refl

private_folder : mentions_of_word Systemd257 StateDirectory (codes "private/a") ≡ None
private_folder = refl

no_link_of_configuration : mentions_of_word Systemd257 ConfigurationDirectory (codes "foo:bar") ≡ None
no_link_of_configuration = refl

base_knows_no_link : mentions_of_word Base StateDirectory (codes "a:b") ≡ Some (record { path = state_of (codes "a:b"); kind = Rw; optional = true } ∷ [])
base_knows_no_link = refl

-- a path of 250 bytes can be read, and one of 251 cannot
longest : setting_path (codes "/" ++ replicate 249 97) ≡ Some (replicate 249 97 ∷ [])
longest = refl

too_long : setting_path (codes "/" ++ replicate 250 97) ≡ None
too_long = refl
