-- systemd.exec(5), BindPaths= and BindReadOnlyPaths=: a source path and a destination path, separated by a colon.
use Rattle.std.specs.Prelude.{ℕ, ◌==◌, Bool, true, false, codes, List, [], ◌∷◌, Option, Some, None, option_and_then, if◌then◌else◌}
use Rattle.std.specs.List.{slice_split}
use Rattle.std.specs.Option.{option_map}
use Rattle.std.specs.Str.{bytes_eq, byte as ascii}
use Rattle.path_settings.specs.declared.mentions.Kind.TheVariants.{Bind}
use Rattle.path_settings.specs.declared.mentions.Mention.{Mention}
use Rattle.path_settings.specs.SettingPaths.{setting_path}
use Rattle.path_settings.specs.Marks.{is_marked, without}

abbrev pub bind_pieces : List ℕ → List (List ℕ)
bind_pieces text = slice_split (λ byte. byte == ascii ":") text

-- `rbind` and `norbind` say whether the bind takes the mounts below the source along. In the base profile neither changes anything
abbrev pub bind_option : List ℕ → Option Bool
bind_option option = if bytes_eq option (codes "rbind") then Some true else (if bytes_eq option (codes "norbind") then Some false else None)

-- the source, the destination and the option; if the destination is omitted, the source is mounted at its own path
abbrev pub ends_of : List (List ℕ) → Option (List ℕ × List ℕ × Bool)
ends_of (source ∷ []) = Some (source, source, true)
ends_of (source ∷ place ∷ []) = Some (source, place, true)
ends_of (source ∷ place ∷ option ∷ []) = option_map (λ recursive. (source, place, recursive)) (bind_option option)
ends_of _ = None

-- both are paths of a setting; an empty text is not
abbrev pub bind_between : Bool → Bool → List ℕ × List ℕ × Bool → Option Mention
bind_between read_only optional ends =
    option_and_then (λ source. option_map (λ place. record { path = place; kind = Bind source read_only ends.2; optional = optional })
    (setting_path ends.1)) (setting_path ends.0)

abbrev pub bind_mention : Bool → List ℕ → Option Mention
bind_mention read_only word = option_and_then (bind_between read_only (is_marked word)) (ends_of (bind_pieces (without (codes "-") word)))
