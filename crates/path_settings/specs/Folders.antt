-- systemd.exec(5), StateDirectory=, RuntimeDirectory=, CacheDirectory= and LogsDirectory=: names of folders below a given folder. The
-- service may write to them.
use Rattle.std.specs.Prelude.{ℕ, ◌==◌, ◌++◌, Bool, true, false, not, codes, List, [], ◌∷◌, Option, None, if◌then◌else◌}
use Rattle.std.specs.Option.{option_map}
use Rattle.std.specs.Str.{byte as ascii}
use Rattle.path_settings.specs.declared.mentions.Kind.TheVariants.{Rw}
use Rattle.path_settings.specs.declared.mentions.Mention.{Mention}
use Rattle.path_settings.specs.SettingPaths.{setting_path}

-- a name is not empty and does not begin with a slash
abbrev pub is_relative : List ℕ → Bool
is_relative [] = false
is_relative (byte ∷ name) = not (byte == ascii "/")

abbrev pub text_below : List ℕ → List ℕ → List ℕ
text_below folder name = folder ++ codes "/" ++ name

abbrev pub folder_mention : List ℕ → List ℕ → Option Mention
folder_mention folder name =
    if is_relative name then option_map (λ path. record { path = path; kind = Rw; optional = true })
    (setting_path (text_below folder name)) else None
