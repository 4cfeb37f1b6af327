-- The keys that a table may have, the shape of each value, and which of them must be there.
use Rattle.std.specs.Prelude.{ℕ, Bool, true, false, ◌&&◌, List, is_some}
use denote.Ref.{Bor}
use Rattle.std.specs.List.{list_any, list_all}
use Rattle.std.specs.Option.{option_map_or}
use Rattle.std.specs.Str.{bytes_eq}
use Rattle.toml.specs.Data.{Data, Members, no_members, member, get, as_str, as_integer, as_bool, as_array, as_table}
use Rattle.toml_shapes.specs.declared.keys.Shape.{Shape}
use Rattle.toml_shapes.specs.declared.keys.Shape.TheVariants.{Text, Number, Flag, Texts, Numbers, Tables}
use Rattle.toml_shapes.specs.declared.keys.Need.{Need}
use Rattle.toml_shapes.specs.declared.keys.Need.TheVariants.{Must, May}
use Rattle.toml_shapes.specs.Tree.{elements_of}

-- a key: its name, the shape of its value, and whether it must be there
abbrev pub KnownKey : Type 0
KnownKey = List ℕ × Shape × Need

-- the same as the program's tables have it
abbrev pub HeldKey : Type 0
HeldKey = Bor (List ℕ) × Shape × Need

abbrev pub known : HeldKey → KnownKey
known key = (key.0.now, key.1, key.2)

-- an array of which each element passes
abbrev pub is_array_of : (Data → Bool) → Data → Bool
is_array_of test value = is_some (as_array value) && list_all test (elements_of value)

abbrev pub is_text : Data → Bool
is_text value = is_some (as_str value)

abbrev pub is_number : Data → Bool
is_number value = is_some (as_integer value)

abbrev pub is_table : Data → Bool
is_table value = is_some (as_table value)

abbrev pub has_shape : Shape → Data → Bool
has_shape Text value = is_text value
has_shape Number value = is_number value
has_shape Flag value = is_some (as_bool value)
has_shape Texts value = is_array_of is_text value
has_shape Numbers value = is_array_of is_number value
has_shape Tables value = is_array_of is_table value

-- a known key, with the value that it may have
abbrev pub is_known : List KnownKey → List ℕ → Data → Bool
is_known keys key value = list_any (λ one. bytes_eq key one.0 && has_shape one.1 value) keys

-- the same of the program's tables
unfoldable pub is_held : List HeldKey → List ℕ → Data → Bool
is_held keys key value = list_any (λ one. bytes_eq key one.0.now && has_shape one.1 value) keys

-- each member of a table passes
abbrev pub each_member : (List ℕ → Data → Bool) → Members → Bool
each_member test no_members = true
each_member test (member key value members) = test key value && each_member test members

-- a key that must be there is
abbrev pub has_if_needed : Need → List ℕ → Data → Bool
has_if_needed Must key value = is_some (get key value)
has_if_needed May key value = true

-- a table that has known keys alone, and each that must be there
abbrev pub has_keys : List KnownKey → Data → Bool
has_keys keys value =
    option_map_or (each_member (is_known keys)) (as_table value) false
    && list_all (λ one. has_if_needed one.2 one.0 value) keys
