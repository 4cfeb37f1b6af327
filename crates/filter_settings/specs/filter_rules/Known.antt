-- Whether the table has the families of a list.
use Rattle.std.specs.Prelude.{◌≡◌, Bool, true, List}
use Rattle.std.specs.Option.{ForSome}
use Rattle.std.specs.List.{All, list_any}
use Rattle.call_table.specs.Table.{Table}
use Rattle.call_table.specs.Lookups.{has_number}
use Rattle.call_table.specs.declared.listed.CallLine.{CallLine}
use Rattle.filter_settings.specs.declared.filter_rules.mentions.FamilyMention.{FamilyMention}
use Rattle.filter_settings.specs.declared.filter_rules.settings.FilterSettings.{FilterSettings}

-- one of these families has the number of the word
abbrev pub is_known : List CallLine → FamilyMention → Bool
is_known families mention = list_any (has_number mention.number) families

abbrev pub IsKnown : Table → FamilyMention → Type 0
IsKnown table mention = is_known table.families mention ≡ true

-- the table has the family of each word of RestrictAddressFamilies=, as it has if the words were looked up in it
abbrev pub HasKnownFamilies : Table → FilterSettings → Type 0
HasKnownFamilies table settings = ForSome settings.families (λ list. All (IsKnown table) list.mentions)
