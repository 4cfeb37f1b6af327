-- What a protection does at a path, as a mention (systemd.exec(5), Sandboxing).
use Rattle.std.specs.Prelude.{ℕ, Bool, true, false, is_some, List, Option}
use Rattle.std.specs.List.{filter_map}
use Rattle.std.specs.Option.{option_map}
use Rattle.path_settings.specs.abs_path.Paths.{Path}
use Rattle.path_settings.specs.declared.mentions.Kind.{Kind}
use Rattle.path_settings.specs.declared.mentions.Kind.TheVariants.{Ro, Rw, NoExec, Hide, Tmp, Bind}
use Rattle.path_settings.specs.declared.mentions.Mention.{Mention}
use Rattle.path_settings.specs.SettingPaths.{setting_path}
use Rattle.site_table.specs.Table.{Site, place_of}
use Rattle.mount_settings.specs.declared.effects.Effect.{Effect}
use Rattle.mount_settings.specs.declared.effects.Effect.TheVariants.{ReadOnly, Writable, NotExecutable, Hidden, Empty, Shown}

-- `Shown` binds the host's object to its own path, so it is visible even below an empty file system
abbrev pub kind_at : Effect → Path → Kind
kind_at ReadOnly path = Ro
kind_at Writable path = Rw
kind_at NotExecutable path = NoExec
kind_at Hidden path = Hide
kind_at (Empty read_only) path = Tmp read_only false false
kind_at Shown path = Bind path false true

-- the mention is optional, and a text that is no path gives no mention
abbrev pub mention_at : Effect → List ℕ → Option Mention
mention_at effect text = option_map (λ path. record { path = path; kind = kind_at effect path; optional = true }) (setting_path text)

abbrev pub brings : Effect → List (List ℕ) → List Mention
brings effect texts = filter_map (mention_at effect) texts

-- the site has a row at the path
abbrev pub has_row : Site → Path → Bool
has_row site path = is_some (place_of site.rows path)

abbrev pub stands : Site → Mention → Bool
stands site mention = has_row site mention.path
