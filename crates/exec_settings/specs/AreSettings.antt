-- The settings of a unit.
use Rattle.std.specs.Prelude.{◌≡◌, ◌≤◌, Ok, Some, List, map, IsTrue}
use Rattle.std.specs.List.{All}
use Rattle.filter_settings.specs.bpf_code.declared.machine.CallData.{CallData}
use Rattle.filter_settings.specs.call_rules.Action.{case_action}
use Rattle.filter_settings.specs.call_rules.Sizes.{CanCompile}
use Rattle.filter_settings.specs.call_table.Table.{Table}
use Rattle.cred_settings.specs.dropin_merge.declared.resolved.Resolved.{Resolved}
use Rattle.filter_settings.specs.filter_rules.Costs.{HasShortCases, most_room}
use Rattle.filter_settings.specs.filter_rules.Refusing.{AreRefusing}
use Rattle.filter_settings.specs.filter_rules.Installed.{place_of, installed}
use Rattle.filter_settings.specs.filter_rules.Memory.{marks_memory}
use Rattle.filter_settings.specs.filter_rules.Wanted.{wanted_action}
use Rattle.filter_settings.specs.declared.filter_rules.installed.Filter.{Filter}
use Rattle.filter_settings.specs.declared.filter_rules.settings.FilterSettings.{FilterSettings}
use Rattle.mount_settings.specs.path_settings.Mentioned.{leaves_the_root, AreShort}
use Rattle.cred_settings.specs.site_table.Table.{Site}
use Rattle.exec_settings.specs.declared.service.Settings.{Settings}
use Rattle.exec_settings.specs.Dynamic.{unit_filters}
use Rattle.exec_settings.specs.Mounts.{unit_mentions}
use Rattle.exec_settings.specs.Notes.{all_notes}
use Rattle.exec_settings.specs.Order.{AreInOrder}
use Rattle.exec_settings.specs.RunsAs.{unit_identity}
use Rattle.exec_settings.specs.Settings.{unit_ambient, unit_bounding, unit_keeps, unit_new_privileges, unit_program}

-- the rules of a filter for an ABI take on every call the action that the settings say by names and words
abbrev pub HasWantedRules : FilterSettings → Table → Filter → Type 0
HasWantedRules settings table one = (input : CallData) → case_action one.rules input ≡ wanted_action one.name settings table one.abi input

-- the filters are exactly the filters that are on, in the order in which they are installed. Each can be compiled, and all programs fit
-- into one stack. A call has at most eight cases, or each of its cases tests one whole value of the same argument. A refused call ends
-- the process or returns an error number
pub record AreFilters (settings : FilterSettings) (table : Table) (filters : List Filter) : Type 0 where
  pub exactly_those_on : map place_of filters ≡ installed settings table
  pub do_as_wanted : All (HasWantedRules settings table) filters
  pub can_be_compiled : All (λ one. CanCompile one.rules) filters
  pub fit_into_a_stack : most_room filters ≤ 32768
  pub cases_are_short : All (λ one. All HasShortCases one.rules.calls) filters
  pub refuse_by_numbers : AreRefusing settings

-- the settings of a unit, by the table of calls and the site
pub record AreSettings (unit : Resolved) (table : Table) (site : Site) (made : Settings) : Type 0 where
  pub launches_the_first_command : unit_program unit site ≡ Some made.program
  pub runs_as : unit_identity unit site ≡ Ok (record { uid = made.uid; gid = made.gid; groups = made.groups })
  pub bounding_without_what_is_taken : made.bounding ≡ unit_bounding unit table
  pub ambient : made.ambient ≡ unit_ambient unit table
  pub keeps_for_the_filters : made.keeps_capabilities ≡ unit_keeps unit table made.uid
  pub new_privileges : made.no_new_privs ≡ unit_new_privileges unit table made.uid
  pub refuses_memory : made.mdwe ≡ marks_memory (unit_filters unit table)
  pub filters_as_wanted : AreFilters (unit_filters unit table) table made.filters.items
  pub mentions_written_and_implied : made.mentions ≡ unit_mentions unit site
  pub leaves_the_root : IsTrue (leaves_the_root made.mentions)
  pub paths_are_short : AreShort made.mentions
  pub all_notes_in_order : AreInOrder (all_notes unit table) made.notes.items
