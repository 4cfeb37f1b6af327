-- The drop-ins that a unit reads (systemd.unit(5), Description: drop-in files).
use Rattle.std.specs.Prelude.{ℕ, ◌&&◌, nat_eq, Bool, cond, Option, None, is_some, List, [], ◌∷◌, map, filter, flat_map, find, codes}
use Rattle.std.specs.List.{ends_with, filter_map}
use Rattle.std.specs.Option.{option_map}
use Rattle.std.specs.Ordering.{nat_cmp, match_ordering}
use Rattle.std.specs.Cmp.Lexicographic.{slice_cmp}
use Rattle.host_io.specs.Files.{Files, bytes_at, as_name, names_in}
use Rattle.unit_names.specs.Names.{Name}
use Rattle.dropin_merge.specs.Places.{below, dropin_places}

-- whether a file has the path
abbrev pub is_there : Files → List ℕ → Bool
is_there files path = is_some (bytes_at files path)

-- a file whose name ends in `.conf` is a drop-in
abbrev pub ends_in_conf : List ℕ → Bool
ends_in_conf name = ends_with nat_eq name (codes ".conf")

-- a name of a file is not empty, has no slash, and ends in `.conf`
abbrev pub is_conf : List ℕ → Bool
is_conf name = is_some (as_name name) && ends_in_conf name

-- the path of a file name in each of some places
abbrev pub paths_in : List (List ℕ) → List ℕ → List (List ℕ)
paths_in places name = map (λ place. below place name) places

-- the winner of a file name among some places is the first path that exists
abbrev pub winner_among : Files → List (List ℕ) → List ℕ → Option (List ℕ)
winner_among files places name = cond (is_conf name) (find (is_there files) (paths_in places name)) None

-- the winner of a file name is the drop-in of the unit with the least rank
abbrev pub winner_of : Files → Name → List ℕ → Option (List ℕ)
winner_of files unit name = winner_among files (dropin_places unit) name

-- puts a name among others in byte order, once
abbrev pub with_name : List ℕ → List (List ℕ) → List (List ℕ)
with_name name [] = name ∷ []
with_name name (first ∷ names) = match_ordering (slice_cmp nat_cmp name first) (name ∷ first ∷ names) (first ∷ names)
    (first ∷ with_name name names)

-- names in byte order, each once
abbrev pub in_byte_order : List (List ℕ) → List (List ℕ)
in_byte_order [] = []
in_byte_order (name ∷ names) = with_name name (in_byte_order names)

-- the file names of all drop-ins in some places
abbrev pub conf_names : Files → List (List ℕ) → List (List ℕ)
conf_names files places = filter ends_in_conf (flat_map (names_in files) places)

-- a file name with the path that wins it
abbrev pub won : List ℕ → Option (List ℕ) → Option (List ℕ × List ℕ)
won name winner = option_map (λ path. (name, path)) winner

-- each file name with its winner, in byte order of file names
abbrev pub winners_of : Files → Name → List (List ℕ × List ℕ)
winners_of files unit = filter_map (λ name. won name (winner_of files unit name)) (in_byte_order (conf_names files (dropin_places unit)))
