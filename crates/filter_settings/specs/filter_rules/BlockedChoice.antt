-- Blocked calls: what the rules do to calls of a name.
use Rattle.std.specs.Prelude.{ℕ, if◌then◌else◌, Option, Some, None, List}
use Rattle.call_table.specs.Table.{Table}
use Rattle.filter_settings.specs.declared.filter_rules.choice.Choice.{Choice}
use Rattle.dropin_merge.specs.linux_numbers.Errnos.{eperm}
use Rattle.call_rules.specs.declared.actions.Action.TheVariants.{Errno}
use Rattle.filter_settings.specs.filter_rules.Blocked.{is_blocked}
use Rattle.filter_settings.specs.filter_rules.Choices.{always}

abbrev pub blocked_choice : Table → List (List ℕ) → List ℕ → Option Choice
blocked_choice table words name = if is_blocked table words name then Some (always (Errno eperm)) else None
