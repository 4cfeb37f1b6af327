-- SystemCallFilter=: what the words say of the calls of a table, as marks at the calls' positions (systemd.exec(5)).
use Rattle.std.specs.Prelude.{◌≡◌, ℕ, ◌<◌, Bool, if◌then◌else◌, Option, Some, None, List, length, slice_get, slice_index_or}
use Rattle.std.specs.Option.{option_map}
use Rattle.call_rules.specs.declared.actions.Action.{Action}
use Rattle.call_table.specs.Table.{Table, every_call}
use Rattle.call_table.specs.Lookups.{place_named}
use Rattle.call_table.specs.declared.listed.CallLine.{CallLine}
use Rattle.filter_settings.specs.declared.filter_rules.mentions.Mode.{Mode}
use Rattle.filter_settings.specs.declared.filter_rules.mentions.Mention.{Mention}
use Rattle.filter_settings.specs.declared.filter_rules.mentions.CallList.{CallList}
use Rattle.filter_settings.specs.filter_rules.Covers.{covers}
use Rattle.filter_settings.specs.filter_rules.Calls.{last_mention, listed_by, listed_action}

-- a word lists the calls that it covers with an action, or takes them off the list
abbrev pub said : Mode → Action → Mention → Option Action
said mode default mention = if mention.adds then Some (listed_action mode default mention) else None

-- the action with which a name is listed
abbrev pub action_of : Table → Action → List ℕ → CallList → Option Action
action_of table default name list = option_map (listed_action list.mode default) (listed_by table list.mentions name)

-- the statement of a word replaces the mark of a call that it covers
abbrev pub with_said : Bool → Option Action → Option (Option Action) → Option (Option Action)
with_said covered what mark = if covered then Some what else mark

-- the call at this position is the first of its name
pub record IsFirst (calls : List CallLine) (at : ℕ) (call : CallLine) : Type 0 where
  pub stands : slice_get calls at ≡ Some call
  pub first : place_named call.name calls ≡ Some at

-- the mark of a call that is the first of its name is the statement of the last word that covers the name, if there is one
pub record AreMarks (table : Table) (says : Mention → Option Action) (mentions : List Mention) (marks : List (Option (Option Action))) : Type 0 where
  pub as_many : length marks ≡ length (every_call table)
  pub each : (at : ℕ) (call : CallLine) → IsFirst (every_call table) at call
      → slice_index_or marks at None ≡ option_map says (last_mention table mentions call.name)

-- the same for a list with its default action
abbrev pub AreMarksOf : Table → Action → CallList → List (Option (Option Action)) → Type 0
AreMarksOf table default list marks = AreMarks table (said list.mode default) list.mentions marks

-- the positions that pass the test get this statement as their mark
abbrev pub SaidOf : (ℕ → Bool) → Option Action → List (Option (Option Action)) → List (Option (Option Action)) → Type 0
SaidOf test what old new = (at : ℕ) → at < length old → slice_index_or new at None ≡ with_said (test at) what (slice_index_or old at None)

-- the calls that a word covers get this statement as their mark
abbrev pub SaidBy : Table → List ℕ → Option Action → List (Option (Option Action)) → List (Option (Option Action)) → Type 0
SaidBy table word what old new = (at : ℕ) (call : CallLine) → IsFirst (every_call table) at call
    → slice_index_or new at None ≡ with_said (covers table word call.name) what (slice_index_or old at None)
