-- RestrictRealtime=: what the rules do to calls of a name.
use Rattle.std.specs.Prelude.{ℕ, if◌then◌else◌, Option, Some, None, List, [], ◌∷◌, codes}
use Rattle.std.specs.Str.{bytes_eq}
use Rattle.dropin_merge.specs.unit_names.declared.version.Version.{Version}
use Rattle.filter_settings.specs.declared.filter_rules.choice.Choice.{Choice}
use Rattle.filter_settings.specs.filter_rules.Choices.{whole, allowed_values}
use Rattle.filter_settings.specs.filter_rules.Realtime.{sched_other, sched_batch, sched_idle}

abbrev pub realtime_choice : Option Version → List ℕ → Option Choice
realtime_choice systemd name = if bytes_eq name (codes "sched_setscheduler") then Some
    (allowed_values systemd 1 (whole 1 sched_other ∷ whole 1 sched_batch ∷ whole 1 sched_idle ∷ [])) else None
