-- systemd.exec(5), RestrictAddressFamilies=: the address families that socket(2) may use.
use Rattle.std.specs.Prelude.{ℕ, ◌==◌, ◌&&◌, not, Bool, false, if◌then◌else◌, Option, List, find, reverse, codes}
use Rattle.std.specs.List.{list_any}
use Rattle.std.specs.Option.{option_map_or}
use Rattle.std.specs.Str.{bytes_eq}
use Rattle.call_rules.specs.bpf_code.declared.machine.CallData.{CallData}
use Rattle.filter_settings.specs.declared.filter_rules.mentions.Mode.{Mode}
use Rattle.filter_settings.specs.declared.filter_rules.mentions.Mode.TheVariants.{Allow, Deny}
use Rattle.filter_settings.specs.declared.filter_rules.mentions.FamilyMention.{FamilyMention}
use Rattle.filter_settings.specs.declared.filter_rules.mentions.FamilyList.{FamilyList}
use Rattle.call_table.specs.Table.{Table}
use Rattle.dropin_merge.specs.unit_names.declared.version.Version.{Version}
use Rattle.filter_settings.specs.filter_rules.Actions.{meets}
use Rattle.filter_settings.specs.filter_rules.Calls.{is_allowing}

-- the last word that names the family
abbrev pub last_family : List FamilyMention → ℕ → Option FamilyMention
last_family mentions number = find (λ mention. mention.number == number) (reverse mentions)

-- the last word puts the family on the list, or takes it off
abbrev pub is_listed_family : List FamilyMention → ℕ → Bool
is_listed_family mentions number = option_map_or (λ mention. mention.adds) (last_family mentions number) false

-- the list denies, and no family of the table is on it
abbrev pub denies_no_family : Table → FamilyList → Bool
denies_no_family table list =
    if is_allowing list.mode then false else not (list_any (λ family. is_listed_family list.mentions family.number) table.families)

-- a list that allows refuses every other family, even one that the table lacks; a list that denies refuses the families on it
abbrev pub is_refused_by : Mode → Bool → Bool
is_refused_by Allow listed = not listed
is_refused_by Deny listed = listed

abbrev pub is_refused_family : FamilyList → ℕ → Bool
is_refused_family list number = is_refused_by list.mode (is_listed_family list.mentions number)

-- socket(2) with a refused family, which is argument 0
abbrev pub refuses_family : Option Version → Option FamilyList → List ℕ → CallData → Bool
refuses_family systemd families name input = bytes_eq name (codes "socket") && option_map_or
    (λ list. is_refused_by list.mode (meets systemd input 0 (is_listed_family list.mentions))) families false

-- socket(2) may use the family of this number
abbrev pub permits_family : Option FamilyList → ℕ → Bool
permits_family families number = not (option_map_or (λ list. is_refused_family list number) families false)
