-- The filters that are installed.
use Rattle.std.specs.Prelude.{List, filter, Bool}
use Rattle.call_table.specs.Table.{Table}
use Rattle.filter_settings.specs.declared.filter_rules.names.FilterPlace.{FilterPlace}
use Rattle.filter_settings.specs.declared.filter_rules.installed.Filter.{Filter}
use Rattle.filter_settings.specs.declared.filter_rules.settings.FilterSettings.{FilterSettings}
use Rattle.filter_settings.specs.filter_rules.Names.{Place, all_programs}
use Rattle.filter_settings.specs.filter_rules.Wanted.{is_on}

abbrev pub shown : FilterPlace → Place
shown place = (place.name, place.abi)

abbrev pub place_of : Filter → Place
place_of made = (made.name, made.abi)

abbrev pub is_installed : FilterSettings → Place → Bool
is_installed settings place = is_on settings place.0

-- the programs of the filters that are on, in the order of installation
abbrev pub installed : FilterSettings → Table → List Place
installed settings table = filter (is_installed settings) (all_programs table.second)
