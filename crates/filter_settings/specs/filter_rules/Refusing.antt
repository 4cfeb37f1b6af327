-- How settings refuse calls: the process ends, or the call returns the number of an error (errno(3)). seccomp(2) returns no number above
-- 4,095.
use Rattle.std.specs.Prelude.{◌≤◌, ⊤, Option}
use Rattle.std.specs.Option.{IfSome}
use Rattle.std.specs.List.{All}
use Rattle.call_rules.specs.declared.actions.Action.{Action}
use Rattle.call_rules.specs.declared.actions.Action.TheVariants.{KillProcess, Errno, Allow}
use Rattle.dropin_merge.specs.linux_numbers.Limits.{max_errno}
use Rattle.filter_settings.specs.declared.filter_rules.mentions.CallList.{CallList}
use Rattle.filter_settings.specs.declared.filter_rules.mentions.Mention.{Mention}
use Rattle.filter_settings.specs.declared.filter_rules.settings.FilterSettings.{FilterSettings}

abbrev pub IsRefusing : Action → Type 0
IsRefusing KillProcess = ⊤
IsRefusing (Errno number) = number ≤ max_errno
IsRefusing Allow = ⊥

-- the action of a word's suffix, if it has one
abbrev pub HasRefusal : Mention → Type 0
HasRefusal mention = IfSome mention.action IsRefusing

abbrev pub HasRefusals : Option CallList → Type 0
HasRefusals calls = IfSome calls (λ list. All HasRefusal list.mentions)

-- the action on refused calls is a refusal, so none of them looks like an answer of the call
pub record AreRefusing (settings : FilterSettings) : Type 0 where
  pub default : IsRefusing settings.default_action
  pub suffixes : HasRefusals settings.calls
