-- systemd.exec(5), ReadWritePaths= and the other lists of paths: a path that is prefixed with `-` is ignored if it does not exist. A `+`
-- after the `-`, or alone in front, makes the path relative to RootDirectory=, which no unit here has.
use Rattle.std.specs.Prelude.{ℕ, codes, List, Option}
use Rattle.std.specs.Option.{option_map}
use Rattle.path_settings.specs.declared.mentions.Kind.{Kind}
use Rattle.path_settings.specs.declared.mentions.Mention.{Mention}
use Rattle.path_settings.specs.SettingPaths.{setting_path}
use Rattle.path_settings.specs.Marks.{is_marked, without}

abbrev pub path_mention : Kind → List ℕ → Option Mention
path_mention kind word = option_map (λ path. record { path = path; kind = kind; optional = is_marked word })
    (setting_path (without (codes "+") (without (codes "-") word)))
