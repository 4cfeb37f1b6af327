-- The files of a shelf are a map from paths to bytes.
use Rattle.std.specs.Prelude.{ℕ, List, [], ◌∷◌, length, drop, find, nat_eq, ◌==◌, option_and_then, ◌&&◌, not, cond, is_none, Bool, true}
use Rattle.std.specs.Prelude.{Option, Some, None}
use Rattle.std.specs.Option.{option_map}
use Rattle.std.specs.List.{filter_map, starts_with, list_any}
use Rattle.std.specs.Str.{bytes_eq}

-- each path with the bytes of its file
abbrev pub Files : Type 0
Files = List (List ℕ × List ℕ)

-- the bytes of the file at a path
abbrev pub bytes_at : Files → List ℕ → Option (List ℕ)
bytes_at files path = option_map (λ file. file.1) (find (λ file. bytes_eq file.0 path) files)

abbrev pub begins_with_slash : List ℕ → Bool
begins_with_slash path = starts_with nat_eq path (47 ∷ [])

-- the path has no slash at its front, and none of these files has it
abbrev pub is_new_path : List ℕ → Files → Bool
is_new_path path files = not (begins_with_slash path) && is_none (bytes_at files path)

-- no path begins with a slash or occurs twice
abbrev pub is_file_map : Files → Bool
is_file_map [] = true
is_file_map (file ∷ files) = is_new_path file.0 files && is_file_map files

-- the text after a front, if the text begins with that front
abbrev pub behind : List ℕ → List ℕ → Option (List ℕ)
behind front text = cond (starts_with nat_eq text front) (Some (drop (length front) text)) None

-- a name is not empty and has no slash
abbrev pub as_name : List ℕ → Option (List ℕ)
as_name name = cond (not (length name == 0) && not (list_any (λ b. b == 47) name)) (Some name) None

-- the name of a path that lies directly in the folder
abbrev pub name_in : List ℕ → List ℕ → Option (List ℕ)
name_in folder path = option_and_then (λ rest. option_and_then as_name (behind (47 ∷ []) rest)) (behind folder path)

-- the names of the files directly in the folder
abbrev pub names_in : Files → List ℕ → List (List ℕ)
names_in files folder = filter_map (λ file. name_in folder file.0) files
