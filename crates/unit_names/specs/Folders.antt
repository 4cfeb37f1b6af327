-- The folders of drop-ins (systemd.unit(5), Description: drop-in files).
use Rattle.std.specs.Prelude.{ℕ, zero, suc, ◌+◌, ◌==◌, ◌&&◌, nat_lt, Bool, Option, Some, None, List, [], ◌∷◌, ◌++◌, length, take, map}
use Rattle.std.specs.Prelude.{filter, slice_index, codes}
use Rattle.unit_names.specs.Names.{Name, text_of, template_of}

-- the places below a number, from the last to the first
abbrev pub places_below : ℕ → List ℕ
places_below zero = []
places_below (suc place) = place ∷ places_below place

-- whether the prefix has a dash at this place, with text before it and after it
abbrev pub is_inner_dash : List ℕ → ℕ → Bool
is_inner_dash prefix place = (nat_lt 0 place && nat_lt (place + 1) (length prefix)) && slice_index prefix place == 45

-- the folder of a dash: the prefix up to the dash, the dash, and `.service.d`
abbrev pub dash_folder : List ℕ → ℕ → List ℕ
dash_folder prefix place = take (place + 1) prefix ++ codes ".service.d"

-- the folders of all such dashes, from the last to the first
abbrev pub dash_folders : List ℕ → List (List ℕ)
dash_folders prefix = map (dash_folder prefix) (filter (is_inner_dash prefix) (places_below (length prefix)))

-- the folder of one unit
abbrev pub folder_of : List ℕ → List ℕ
folder_of name = name ++ codes ".d"

-- the folder of the template, if there is a template
abbrev pub template_folders : Option (List ℕ) → List (List ℕ)
template_folders None = []
template_folders (Some template) = folder_of template ∷ []

-- the folders of the name, of its template, of the dashes of its prefix, and of all services: the most specific first
abbrev pub folders_of : Name → List (List ℕ)
folders_of name = folder_of (text_of name) ∷ ((template_folders (template_of name) ++ dash_folders name.prefix) ++ (codes "service.d" ∷ []))
