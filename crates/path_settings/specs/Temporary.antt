-- systemd.exec(5), TemporaryFileSystem=: the mount point of an empty file system, and its mount options after the first colon.
use Rattle.std.specs.Prelude.{ℕ, ◌==◌, Bool, false, codes, List, Option}
use Rattle.std.specs.List.{slice_split, list_any, before_first, after_first}
use Rattle.std.specs.Option.{option_map}
use Rattle.std.specs.Str.{bytes_eq, byte as ascii}
use Rattle.path_settings.specs.declared.mentions.Kind.{Kind}
use Rattle.path_settings.specs.declared.mentions.Kind.TheVariants.{Tmp}
use Rattle.path_settings.specs.declared.mentions.Mention.{Mention}
use Rattle.path_settings.specs.SettingPaths.{setting_path}

abbrev pub is_colon : ℕ → Bool
is_colon byte = byte == ascii ":"

-- one of the options between the commas is this one
abbrev pub asks_for : List ℕ → List ℕ → Bool
asks_for name options = list_any (λ option. bytes_eq option name) (slice_split (λ byte. byte == ascii ",") options)

-- the options `ro`, `noexec` and `nosuid` count, the last two only in systemd 252 and 257; the other options change nothing here
abbrev pub tmp_with : List ℕ → Kind
tmp_with options = Tmp (asks_for (codes "ro") options) (asks_for (codes "noexec") options) (asks_for (codes "nosuid") options)

abbrev pub temporary_at : List ℕ → List ℕ → Option Mention
temporary_at path options = option_map (λ place. record { path = place; kind = tmp_with options; optional = false })
    (setting_path path)

abbrev pub temporary_mention : List ℕ → Option Mention
temporary_mention word = temporary_at (before_first is_colon word) (after_first is_colon word)
