-- RestrictAddressFamilies=: what the rules do to calls of a name.
use Rattle.std.specs.Prelude.{ℕ, if◌then◌else◌, Option, Some, None, List, filter, map, codes, option_and_then}
use Rattle.std.specs.Str.{bytes_eq}
use Rattle.call_table.specs.Table.{Table}
use Rattle.call_table.specs.declared.listed.CallLine.{CallLine}
use Rattle.dropin_merge.specs.unit_names.declared.version.Version.{Version}
use Rattle.call_rules.specs.Tested.{Tested}
use Rattle.filter_settings.specs.declared.filter_rules.choice.Choice.{Choice}
use Rattle.filter_settings.specs.declared.filter_rules.mentions.Mode.{Mode}
use Rattle.filter_settings.specs.declared.filter_rules.mentions.Mode.TheVariants.{Allow, Deny}
use Rattle.filter_settings.specs.declared.filter_rules.mentions.FamilyMention.{FamilyMention}
use Rattle.filter_settings.specs.declared.filter_rules.mentions.FamilyList.{FamilyList}
use Rattle.dropin_merge.specs.linux_numbers.Errnos.{eafnosupport}
use Rattle.call_rules.specs.declared.actions.Action.TheVariants as action
use Rattle.filter_settings.specs.filter_rules.Choices.{whole, by_value}
use Rattle.filter_settings.specs.filter_rules.Families.{is_listed_family}

-- a test for each family of the table that is on the list
abbrev pub family_tests : List FamilyMention → List CallLine → List Tested
family_tests mentions families = map (λ family. whole 0 family.number) (filter (λ family. is_listed_family mentions family.number) families)

abbrev pub family_choice : Option Version → Mode → List Tested → Choice
family_choice systemd Allow tests = by_value systemd 0 tests action.Allow (action.Errno eafnosupport)
family_choice systemd Deny tests = by_value systemd 0 tests (action.Errno eafnosupport) action.Allow

abbrev pub socket_choice : Option Version → Table → FamilyList → Choice
socket_choice systemd table list = family_choice systemd list.mode (family_tests list.mentions table.families)

abbrev pub families_choice : Option Version → Table → Option FamilyList → List ℕ → Option Choice
families_choice systemd table families name = if bytes_eq name (codes "socket") then option_and_then
    (λ list. Some (socket_choice systemd table list)) families else None
