-- Ids of users and groups (credentials(7)): 0 to 4,294,967,294. The next number means no id in the calls that set ids.
use Rattle.std.specs.Prelude.{ℕ, ℤ, codes, pos, negsuc, nat_le, Bool, false, cond, not, is_some, List, Option, Some, None, option_and_then}
use Rattle.std.specs.List.{list_all, filter_map}
use Rattle.std.specs.Option.{option_map_or}
use Rattle.toml.specs.Data.{Data, as_integer}
use Rattle.toml_shapes.specs.Tree.{number_at, elements_at}

-- the greatest id
abbrev pub greatest_id : ℕ
greatest_id = 4294967294

abbrev pub id_of : ℤ → Option ℕ
id_of (pos number) = cond (nat_le number greatest_id) (Some number) None
id_of (negsuc number) = None

-- the id at a key, if the key has a number in range
abbrev pub id_at : List ℕ → Data → Option ℕ
id_at key value = option_and_then id_of (number_at key value)

-- the key has a number out of range
abbrev pub is_out_of_range : List ℕ → Data → Bool
is_out_of_range key value = option_map_or (λ number. not (is_some (id_of number))) (number_at key value) false

-- the most user namespaces that a site may allow
abbrev pub most_spaces : ℕ
most_spaces = 64

-- the number, if a site may allow so many
abbrev pub count_of : ℤ → Option ℕ
count_of (pos number) = cond (nat_le number most_spaces) (Some number) None
count_of (negsuc number) = None

abbrev pub count_by : Option ℤ → Option ℕ
count_by None = Some 0
count_by (Some number) = count_of number

-- the number of user namespaces that may be made, if the number at the key is in range; a missing key means 0
abbrev pub spaces_at : Data → Option ℕ
spaces_at site = count_by (number_at (codes "user_namespaces") site)

-- the id in a part of the tree, if it is a number in range
abbrev pub as_id : Data → Option ℕ
as_id value = option_and_then id_of (as_integer value)

-- the ids of the array at a key
abbrev pub ids_at : List ℕ → Data → List ℕ
ids_at key value = filter_map as_id (elements_at key value)

-- each element of the array at a key is an id
abbrev pub are_ids : List ℕ → Data → Bool
are_ids key value = list_all (λ one. is_some (as_id one)) (elements_at key value)
