-- SystemCallFilter=: what the rules do to calls of a name.
use Rattle.std.specs.Prelude.{ℕ, if◌then◌else◌, Option, Some, List, option_and_then}
use Rattle.std.specs.Option.{option_map}
use Rattle.call_rules.specs.declared.actions.Action.{Action}
use Rattle.call_table.specs.Table.{Table}
use Rattle.filter_settings.specs.declared.filter_rules.choice.Choice.{Choice}
use Rattle.filter_settings.specs.declared.filter_rules.mentions.CallList.{CallList}
use Rattle.filter_settings.specs.filter_rules.Calls.{listed_by, listed_action, list_action}
use Rattle.filter_settings.specs.filter_rules.Choices.{always}

-- a call on the list has a rule, and any other call has none
abbrev pub listed_choice : Table → Action → List ℕ → CallList → Option Choice
listed_choice table default name list = option_map (λ mention. always (listed_action list.mode default mention))
    (listed_by table list.mentions name)

-- a list that hides the calls that systemd does not know has a rule for each call with a name
abbrev pub list_choice : Table → Action → List ℕ → CallList → Option Choice
list_choice table default name list =
    if list.hides_unknown then Some (always (list_action table default name list)) else listed_choice table default name list

abbrev pub calls_choice : Table → Option CallList → Action → List ℕ → Option Choice
calls_choice table calls default name = option_and_then (list_choice table default name) calls
