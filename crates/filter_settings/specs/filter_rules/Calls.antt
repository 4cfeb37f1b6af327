-- systemd.exec(5), SystemCallFilter= and SystemCallErrorNumber=: the calls on the list, and the action on each call.
use Rattle.std.specs.Prelude.{ℕ, ◌&&◌, codes, Bool, true, false, not, is_some, if◌then◌else◌, Option, Some, None, List, find, reverse, unwrap_or, option_and_then}
use Rattle.std.specs.List.{list_any}
use Rattle.std.specs.Option.{option_map_or}
use Rattle.call_rules.specs.declared.actions.Action.{Action}
use Rattle.call_rules.specs.declared.actions.Action.TheVariants as action
use Rattle.call_table.specs.Lookups.{group_named}
use Rattle.call_table.specs.Table.{Table, every_call}
use Rattle.dropin_merge.specs.linux_numbers.Errnos.{enosys}
use Rattle.filter_settings.specs.declared.filter_rules.mentions.Mode.{Mode}
use Rattle.filter_settings.specs.declared.filter_rules.mentions.Mode.TheVariants.{Allow, Deny}
use Rattle.filter_settings.specs.declared.filter_rules.mentions.Mention.{Mention}
use Rattle.filter_settings.specs.declared.filter_rules.mentions.CallList.{CallList}
use Rattle.filter_settings.specs.declared.filter_rules.settings.FilterSettings.{FilterSettings}
use Rattle.filter_settings.specs.filter_rules.Covers.{covers}

-- the last word that covers the name
abbrev pub last_mention : Table → List Mention → List ℕ → Option Mention
last_mention table mentions name = find (λ mention. covers table mention.name name) (reverse mentions)

-- a word puts the calls that it covers on the list, or takes them off
abbrev pub if_adds : Mention → Option Mention
if_adds mention = if mention.adds then Some mention else None

-- the word that puts the name on the list
abbrev pub listed_by : Table → List Mention → List ℕ → Option Mention
listed_by table mentions name = option_and_then if_adds (last_mention table mentions name)

-- a word may list its calls with an action; otherwise they are allowed, or get the default action
abbrev pub listed_action : Mode → Action → Mention → Action
listed_action Allow default mention = unwrap_or mention.action action.Allow
listed_action Deny default mention = unwrap_or mention.action default

abbrev pub is_allowing : Mode → Bool
is_allowing Allow = true
is_allowing Deny = false

-- some call of the table is on the list
abbrev pub lists_a_call : Table → List Mention → Bool
lists_a_call table mentions = list_any (λ call. is_some (listed_by table mentions call.name)) (every_call table)

-- the list denies, and no call of the table is on it
abbrev pub denies_no_call : Table → CallList → Bool
denies_no_call table list = if is_allowing list.mode then false else not (lists_a_call table list.mentions)

-- a call that is not on the list gets the default action, or is allowed
abbrev pub unlisted_action : Mode → Action → Action
unlisted_action Allow default = default
unlisted_action Deny default = action.Allow

-- the table has a group `@known` without the call, so systemd does not know it
abbrev pub is_unknown : Table → List ℕ → Bool
is_unknown table name = is_some (group_named (codes "known") table.groups) && not (covers table (codes "@known") name)

-- a list that hides the calls that systemd does not know answers them with ENOSYS
abbrev pub hidden_action : Bool → Mode → Action → Action
hidden_action hides mode default = if hides then action.Errno enosys else unlisted_action mode default

-- the action on calls of this name that are not on the list
abbrev pub rest_of : Table → Action → List ℕ → CallList → Action
rest_of table default name list = hidden_action (list.hides_unknown && is_unknown table name) list.mode default

abbrev pub list_action : Table → Action → List ℕ → CallList → Action
list_action table default name list = option_map_or (listed_action list.mode default) (listed_by table list.mentions name)
    (rest_of table default name list)

-- the action on calls of this name; if the key is not set, each call is allowed
abbrev pub call_action : Table → Option CallList → Action → List ℕ → Action
call_action table calls default name = option_map_or (list_action table default name) calls action.Allow

-- the action on a number without a name
abbrev pub rest_action : Option CallList → Action → Action
rest_action calls default = option_map_or (λ list. hidden_action list.hides_unknown list.mode default) calls action.Allow

-- the action lets the call through
abbrev pub is_allowed : Action → Bool
is_allowed action.KillProcess = false
is_allowed (action.Errno number) = false
is_allowed action.Allow = true

abbrev pub allows_call : Table → FilterSettings → List ℕ → Bool
allows_call table settings name = is_allowed (call_action table settings.calls settings.default_action name)
