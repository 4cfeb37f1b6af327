-- The places of the files of a unit (systemd.unit(5), Unit File Load Path, and Description: drop-in files).
use Rattle.std.specs.Prelude.{ℕ, Option, Some, None, List, [], ◌∷◌, ◌++◌, map, flat_map, codes}
use Rattle.unit_names.specs.Names.{Name, text_of, template_of}
use Rattle.unit_names.specs.Folders.{folders_of}

-- a file in an earlier folder takes precedence: the folders have the administrator's unit files, the files made at run time, and
-- the files of packages
abbrev pub locations : List (List ℕ)
locations = codes "etc/systemd/system" ∷ codes "run/systemd/system" ∷ codes "usr/lib/systemd/system" ∷ []

-- the path of a name directly in a folder
abbrev pub below : List ℕ → List ℕ → List ℕ
below folder name = folder ++ (codes "/" ++ name)

-- the path of a name in each of the locations
abbrev pub in_locations : List ℕ → List (List ℕ)
in_locations name = map (λ location. below location name) locations

-- the path of a name in each of the locations, if there is a name
abbrev pub if_named : Option (List ℕ) → List (List ℕ)
if_named None = []
if_named (Some name) = in_locations name

-- systemd looks for a fragment under the unit's own name, and then, for an instance, under the name of its template
abbrev pub fragment_paths : Name → List (List ℕ)
fragment_paths unit = in_locations (text_of unit) ++ if_named (template_of unit)

-- the folders of drop-ins by their rank: a more specific folder precedes a less specific one in any location, and an earlier
-- location precedes a later one with the same folder
abbrev pub dropin_places : Name → List (List ℕ)
dropin_places unit = flat_map in_locations (folders_of unit)
