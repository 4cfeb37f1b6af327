-- LockPersonality=: what the rules do to a call of a name.
use Rattle.std.specs.Prelude.{ℕ, if◌then◌else◌, Option, Some, None, List, [], ◌∷◌, map, codes}
use Rattle.std.specs.Str.{bytes_eq}
use Rattle.dropin_merge.specs.unit_names.declared.version.Version.{Version}
use Rattle.filter_settings.specs.declared.filter_rules.choice.Choice.{Choice}
use Rattle.filter_settings.specs.declared.filter_rules.personality.Domain.{Domain}
use Rattle.filter_settings.specs.filter_rules.Choices.{whole, allowed_values}
use Rattle.filter_settings.specs.filter_rules.Personality.{number_of}

-- the values of argument 0 that are permitted
abbrev pub permitted_values : Option Version → Domain → List ℕ
permitted_values None domain = 0 ∷ 0xffff_ffff ∷ []
permitted_values (Some version) domain = number_of domain ∷ []

abbrev pub personality_choice : Option Version → Domain → List ℕ → Option Choice
personality_choice systemd domain name = if bytes_eq name (codes "personality") then Some
    (allowed_values systemd 0 (map (whole 0) (permitted_values systemd domain))) else None
