-- The rows of a site, object by object and folder by folder.
use Rattle.std.proofs.Common.{◌≡◌, ℕ, ◌+◌, List, [], ◌∷◌, ◌++◌, map, refl, sym, ap, ◌∙◌, append-nil, append_assoc, zero-add, arith}
use Rattle.std.specs.Prelude.{flat_map}
use Rattle.std.proofs.lemmas.Grind.{flat_map-append}
use Rattle.std.proofs.lemmas.List.{map-append}
use Rattle.toml.specs.Data.{Data}
use Rattle.toml.specs.View.{view}
use Rattle.toml.specs.declared.value.Value.{Value}
use Rattle.sample_inputs.specs.Site.{numbers_from, dir_row, exe_row, folder_path, folder_rows, object_row, site_rows}
use Rattle.sample_inputs.proofs.Numbers.{numbers_last}
use Rattle.std.specs.Prelude.{codes}

-- one more value at the end
pub pushed : (values new : List Value) (value : Value) (row : Data) → new ≡ values ++ value ∷ [] → view value ≡ row
    → map view new ≡ map view values ++ row ∷ []
pushed values new value row more seen = ap (map view) more ∙ map-append view values (value ∷ [])
    ∙ ap (λ row. map view values ++ row ∷ []) seen

-- the rows of a folder with its first objects
pub objects_so_far : ℕ → ℕ → ℕ → List Data
objects_so_far n k count = dir_row (folder_path k) ∷ map (object_row n k) (numbers_from 0 count)

pub no_object : (n k : ℕ) → objects_so_far n k 0 ≡ dir_row (folder_path k) ∷ []
unfolding objects_so_far
no_object n k = refl

pub object_more : (n k count : ℕ) → objects_so_far n k (count + 1) ≡ objects_so_far n k count ++ object_row n k count ∷ []
unfolding objects_so_far
object_more n k count =
    ap (λ numbers. dir_row (folder_path k) ∷ map (object_row n k) numbers) (numbers_last 0 count)
    ∙ ap (λ rows. dir_row (folder_path k) ∷ rows) (map-append (object_row n k) (numbers_from 0 count) ((0 + count) ∷ []))
    ∙ ap (λ number. dir_row (folder_path k) ∷ (map (object_row n k) (numbers_from 0 count) ++ object_row n k number ∷ [])) (omega arith)

pub all_objects : (n k : ℕ) → objects_so_far n k 64 ≡ folder_rows n k
unfolding objects_so_far
all_objects n k = refl

abbrev pub first_rows : List Data
first_rows = dir_row (codes "/usr") ∷ dir_row (codes "/usr/bin") ∷ exe_row (codes "/usr/bin/app") ∷ []

-- the rows with those of the first folders
pub rows_so_far : ℕ → ℕ → List Data
rows_so_far n count = first_rows ++ flat_map (folder_rows n) (numbers_from 0 count)

pub no_folder : (n : ℕ) → rows_so_far n 0 ≡ first_rows
unfolding rows_so_far
no_folder n = refl

pub folder_more : (n count : ℕ) → rows_so_far n (count + 1) ≡ rows_so_far n count ++ folder_rows n count
unfolding rows_so_far
folder_more n count =
    let before = flat_map (folder_rows n) (numbers_from 0 count) in
    let last = folder_rows n (0 + count) in
    ap (λ numbers. first_rows ++ flat_map (folder_rows n) numbers) (numbers_last 0 count)
    ∙ ap (λ rows. first_rows ++ rows) (flat_map-append (folder_rows n) (numbers_from 0 count) ((0 + count) ∷ []))
    ∙ sym (append_assoc first_rows before (last ++ []))
    ∙ ap (λ rows. (first_rows ++ before) ++ rows) (append-nil last)
    ∙ ap (λ k. (first_rows ++ before) ++ folder_rows n k) (zero-add count)

pub all_folders : (n : ℕ) → rows_so_far n 16 ≡ site_rows n
unfolding rows_so_far site_rows
all_folders n = refl
