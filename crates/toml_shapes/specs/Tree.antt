-- What a part of the tree has at a key. The tree is that of `toml`: its tables, arrays, texts, numbers and booleans.
use Rattle.std.specs.Prelude.{ℕ, ℤ, Bool, List, [], ◌∷◌, Option, option_and_then}
use Rattle.std.specs.Option.{option_map_or}
use Rattle.toml.specs.Data.{Data, Items, no_items, item, get, as_str, as_integer, as_bool, as_array}

-- the items of an array, as a list
abbrev pub elements : Items → List Data
elements no_items = []
elements (item value items) = value ∷ elements items

abbrev pub text_at : List ℕ → Data → Option (List ℕ)
text_at key value = option_and_then as_str (get key value)

abbrev pub number_at : List ℕ → Data → Option ℤ
number_at key value = option_and_then as_integer (get key value)

abbrev pub flag_at : List ℕ → Data → Option Bool
flag_at key value = option_and_then as_bool (get key value)

-- the elements of an array; none of anything else
abbrev pub elements_of : Data → List Data
elements_of value = option_map_or elements (as_array value) []

-- the elements of the array at a key; none where there is no array
abbrev pub elements_at : List ℕ → Data → List Data
elements_at key value = option_map_or elements_of (get key value) []
