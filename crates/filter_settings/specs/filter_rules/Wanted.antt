-- What the settings say of every call: by the filter's name, by the names of the table and by the arguments.
use Rattle.std.specs.Prelude.{ℕ, ◌==◌, ◌&&◌, not, if◌then◌else◌, Bool, List, Option, None, Some, is_some}
use Rattle.std.specs.Option.{option_map_or}
use Rattle.std.specs.List.{list_all}
use Rattle.dropin_merge.specs.unit_names.Versions.{is_known}
use Rattle.call_rules.specs.bpf_code.declared.machine.CallData.{CallData}
use Rattle.call_rules.specs.declared.actions.Action.{Action}
use Rattle.call_rules.specs.declared.actions.Action.TheVariants.{KillProcess, Allow}
use Rattle.call_table.specs.Table.{Abi, Table, arch_of, calls_in}
use Rattle.call_table.specs.Lookups.{numbered}
use Rattle.filter_settings.specs.declared.filter_rules.settings.FilterSettings.{FilterSettings}
use Rattle.filter_settings.specs.declared.filter_rules.names.FilterName.{FilterName}
use Rattle.filter_settings.specs.declared.filter_rules.names.FilterName.TheVariants.{Families, MemoryDenyWriteExecute, Realtime, Suid}
use Rattle.filter_settings.specs.declared.filter_rules.names.FilterName.TheVariants.{Namespaces, Tunables, Hostname, Modules, Logs, Clock, Devices}
use Rattle.filter_settings.specs.declared.filter_rules.names.FilterName.TheVariants.{Personality, Calls, Archs}
use Rattle.dropin_merge.specs.linux_numbers.Errnos.{eperm, eafnosupport}
use Rattle.filter_settings.specs.filter_rules.Actions.{unless_refused}
use Rattle.filter_settings.specs.filter_rules.Families.{refuses_family}
use Rattle.filter_settings.specs.filter_rules.Mapping.{refuses_mapping}
use Rattle.filter_settings.specs.filter_rules.Memory.{marks_memory}
use Rattle.filter_settings.specs.filter_rules.Realtime.{refuses_policy}
use Rattle.filter_settings.specs.filter_rules.Suid.{suid_action}
use Rattle.filter_settings.specs.filter_rules.Namespaces.{namespace_action}
use Rattle.filter_settings.specs.filter_rules.NamespaceTypes.{all_types, permits}
use Rattle.filter_settings.specs.filter_rules.Blocked.{is_blocked, tunables_words, hostname_words, modules_words, logs_words, clock_words}
use Rattle.filter_settings.specs.filter_rules.Blocked.{devices_words}
use Rattle.filter_settings.specs.filter_rules.Personality.{refuses_personality}
use Rattle.filter_settings.specs.filter_rules.Calls.{call_action, rest_action}

-- the settings ask for the filter
abbrev pub is_on : FilterSettings → FilterName → Bool
is_on settings Families = is_some settings.families
is_on settings MemoryDenyWriteExecute = settings.memory_deny_write_execute && not (marks_memory settings)
is_on settings Realtime = settings.restrict_realtime
is_on settings Suid = settings.restrict_suid_sgid
is_on settings Namespaces = not (list_all (permits settings.namespaces) all_types)
is_on settings Tunables = is_known settings.systemd && settings.protect_kernel_tunables
is_on settings Hostname = settings.protect_hostname
is_on settings Modules = settings.protect_kernel_modules
is_on settings Logs = settings.protect_kernel_logs
is_on settings Clock = settings.protect_clock
is_on settings Devices = settings.private_devices
is_on settings Personality = settings.lock_personality
is_on settings Calls = is_some settings.calls
is_on settings Archs = settings.second_abi_refused

-- the action of a filter on a call of this name
abbrev pub named_action : FilterName → FilterSettings → Table → List ℕ → CallData → Action
named_action Families settings table name input = unless_refused eafnosupport (refuses_family settings.systemd settings.families name input)
named_action MemoryDenyWriteExecute settings table name input = unless_refused eperm (refuses_mapping name input)
named_action Realtime settings table name input = unless_refused eperm (refuses_policy settings.systemd name input)
named_action Suid settings table name input = suid_action settings.systemd name input
named_action Namespaces settings table name input = namespace_action settings.systemd settings.namespaces name input
named_action Tunables settings table name input = unless_refused eperm (is_blocked table tunables_words name)
named_action Hostname settings table name input = unless_refused eperm (is_blocked table hostname_words name)
named_action Modules settings table name input = unless_refused eperm (is_blocked table modules_words name)
named_action Logs settings table name input = unless_refused eperm (is_blocked table logs_words name)
named_action Clock settings table name input = unless_refused eperm (is_blocked table clock_words name)
named_action Devices settings table name input = unless_refused eperm (is_blocked table devices_words name)
named_action Personality settings table name input = unless_refused eperm
    (refuses_personality settings.systemd settings.domain name input)
named_action Calls settings table name input = call_action table settings.calls settings.default_action name
named_action Archs settings table name input = KillProcess

-- the action of a filter on a number without a name
abbrev pub unnamed_action : FilterName → FilterSettings → Action
unnamed_action Families settings = Allow
unnamed_action MemoryDenyWriteExecute settings = Allow
unnamed_action Realtime settings = Allow
unnamed_action Suid settings = Allow
unnamed_action Namespaces settings = Allow
unnamed_action Tunables settings = Allow
unnamed_action Hostname settings = Allow
unnamed_action Modules settings = Allow
unnamed_action Logs settings = Allow
unnamed_action Clock settings = Allow
unnamed_action Devices settings = Allow
unnamed_action Personality settings = Allow
unnamed_action Calls settings = rest_action settings.calls settings.default_action
unnamed_action Archs settings = KillProcess

-- the action of a filter on a call of another architecture: if there is one ABI, it ends the process; if there are two, it leaves the
-- call to the filters of the other ABI
abbrev pub other_action : Option Abi → Action
other_action None = KillProcess
other_action (Some second) = Allow

-- the action of a filter for the ABI at a position: by the architecture, and otherwise by the name that the ABI gives to the number
abbrev pub wanted_action : FilterName → FilterSettings → Table → ℕ → CallData → Action
wanted_action filter settings table abi input =
    if input.arch == arch_of table abi
    then option_map_or (λ call. named_action filter settings table call.name input) (numbered input.nr (calls_in table abi))
    (unnamed_action filter settings)
    else other_action table.second
