-- A list of names gives capabilities (capabilities(7)). The names are exact.
use Rattle.std.specs.Prelude.{◌≡◌, ℕ, Bool, is_some, List, Option, Some, option_and_then, position, fold}
use Rattle.std.specs.List.{list_all, filter_map, Contains}
use Rattle.std.specs.Str.{bytes_eq}
use Rattle.toml.specs.Data.{Data, as_str}
use Rattle.cap_sets.specs.Names.{names, name_of}
use Rattle.cap_sets.specs.Sets.{none, union, single}

-- the number of the capability of this name
abbrev pub cap_of : List ℕ → Option ℕ
cap_of name = position (λ known. bytes_eq known name) names

-- the capability that a part of the tree names
abbrev pub as_cap : Data → Option ℕ
as_cap value = option_and_then cap_of (as_str value)

-- each value is the name of a capability
abbrev pub are_caps : List Data → Bool
are_caps values = list_all (λ value. is_some (as_cap value)) values

-- the set of the named capabilities
abbrev pub caps_of : List Data → ℕ
caps_of values = fold (λ set number. union set (single number)) none (filter_map as_cap values)

-- some value of the list is the name of the capability of this number
pub record IsNamed (values : List Data) (number : ℕ) : Type 0 where
  pub value : Data
  pub listed : Contains values value
  pub name : as_str value ≡ Some (name_of number)
