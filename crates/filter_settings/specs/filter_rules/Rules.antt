-- The rules of a filter.
use Rattle.std.specs.Prelude.{◌≡◌, ℕ, Option, None, List}
use Rattle.std.specs.Option.{option_map}
use Rattle.std.specs.List.{All}
use Rattle.call_rules.specs.bpf_code.declared.machine.CallData.{CallData}
use Rattle.call_rules.specs.Action.{case_action}
use Rattle.call_rules.specs.declared.rules.CallRule.{CallRule}
use Rattle.call_rules.specs.declared.rules.RuleSet.{RuleSet}
use Rattle.call_table.specs.Table.{Table}
use Rattle.call_table.specs.declared.listed.CallLine.{CallLine}
use Rattle.filter_settings.specs.declared.filter_rules.choice.Choice.{Choice}
use Rattle.filter_settings.specs.declared.filter_rules.settings.FilterSettings.{FilterSettings}
use Rattle.filter_settings.specs.declared.filter_rules.names.FilterName.{FilterName}
use Rattle.filter_settings.specs.declared.filter_rules.names.FilterName.TheVariants.{Families, MemoryDenyWriteExecute, Realtime, Suid}
use Rattle.filter_settings.specs.declared.filter_rules.names.FilterName.TheVariants.{Namespaces, Tunables, Hostname, Modules, Logs, Clock, Devices}
use Rattle.filter_settings.specs.declared.filter_rules.names.FilterName.TheVariants.{Personality, Calls, Archs}
use Rattle.filter_settings.specs.filter_rules.Blocked.{tunables_words, hostname_words, modules_words, logs_words, clock_words, devices_words}
use Rattle.filter_settings.specs.filter_rules.Choices.{rule_with}
use Rattle.filter_settings.specs.filter_rules.FamiliesChoice.{families_choice}
use Rattle.filter_settings.specs.filter_rules.MappingChoice.{mapping_choice}
use Rattle.filter_settings.specs.filter_rules.RealtimeChoice.{realtime_choice}
use Rattle.filter_settings.specs.filter_rules.SuidChoice.{suid_choice_in}
use Rattle.filter_settings.specs.filter_rules.NamespacesChoice.{namespaces_choice_in}
use Rattle.filter_settings.specs.filter_rules.BlockedChoice.{blocked_choice}
use Rattle.filter_settings.specs.filter_rules.PersonalityChoice.{personality_choice}
use Rattle.filter_settings.specs.filter_rules.CallsChoice.{calls_choice}
use Rattle.call_rules.specs.Sizes.{CanCompile}
use Rattle.filter_settings.specs.filter_rules.Costs.{KeepsWithin, HasShortCases, most_costs}
use Rattle.filter_settings.specs.filter_rules.Wanted.{wanted_action}

-- what the rules of a filter do to calls of a name, if there is a rule
abbrev pub choice_of : FilterName → FilterSettings → Table → List ℕ → Option Choice
choice_of Families settings table name = families_choice settings.systemd table settings.families name
choice_of MemoryDenyWriteExecute settings table name = mapping_choice name
choice_of Realtime settings table name = realtime_choice settings.systemd name
choice_of Suid settings table name = suid_choice_in settings.systemd name
choice_of Namespaces settings table name = namespaces_choice_in settings.systemd settings.namespaces name
choice_of Tunables settings table name = blocked_choice table tunables_words name
choice_of Hostname settings table name = blocked_choice table hostname_words name
choice_of Modules settings table name = blocked_choice table modules_words name
choice_of Logs settings table name = blocked_choice table logs_words name
choice_of Clock settings table name = blocked_choice table clock_words name
choice_of Devices settings table name = blocked_choice table devices_words name
choice_of Personality settings table name = personality_choice settings.systemd settings.domain name
choice_of Calls settings table name = calls_choice table settings.calls settings.default_action name
choice_of Archs settings table name = None

abbrev pub rule_for : FilterName → FilterSettings → Table → CallLine → Option CallRule
rule_for filter settings table call = option_map (rule_with call.number) (choice_of filter settings table call.name)

-- these rules for the ABI at a position do what the settings say, and are not too large
pub record AreRulesOf (filter : FilterName) (settings : FilterSettings) (table : Table) (abi : ℕ) (rules : RuleSet) : Type 0 where
  pub wanted : (input : CallData) → case_action rules input ≡ wanted_action filter settings table abi input
  pub compiled : CanCompile rules
  pub within : KeepsWithin (most_costs filter) rules
  pub short : All HasShortCases rules.calls
