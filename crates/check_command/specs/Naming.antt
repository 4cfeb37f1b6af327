-- Which program of a filter a name means.
use Rattle.std.specs.Prelude.{ℕ, ◌==◌, ◌&&◌, ◌||◌, Bool, false, List, ◌∷◌, ◌++◌, find, Option}
use Rattle.std.specs.Option.{option_map_or}
use Rattle.std.specs.Str.{bytes_eq}
use Rattle.unit_inputs.specs.call_table.Table.{Table, abi_at}
use Rattle.unit_inputs.specs.filter_settings.filter_rules.Installed.{installed}
use Rattle.unit_inputs.specs.filter_settings.filter_rules.Names.{Place, text_of}
use Rattle.unit_inputs.specs.filter_settings.declared.filter_rules.settings.FilterSettings.{FilterSettings}

-- `NAME` is the program of that filter for the native ABI
abbrev pub means_native : List ℕ → Place → Bool
means_native word place = place.1 == 0 && bytes_eq (text_of place.0) word

-- `NAME@ABI` is its program for the ABI of this name
abbrev pub means_with_abi : Table → List ℕ → Place → Bool
means_with_abi table word place = option_map_or (λ abi. bytes_eq (text_of place.0 ++ 64 ∷ abi.name) word) (abi_at table place.1) false

abbrev pub means : Table → List ℕ → Place → Bool
means table word place = means_native word place || means_with_abi table word place

-- among the programs of the filters that are on
abbrev pub named_place : FilterSettings → Table → List ℕ → Option Place
named_place settings table word = find (means table word) (installed settings table)
