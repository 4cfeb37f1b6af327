-- The rows of a site are good.
use Rattle.std.proofs.Common.{◌≡◌, ℕ, zero, suc, ◌+◌, ◌*◌, ◌%◌, ◌==◌, ◌<◌, ◌≤◌, ◌&&◌, ◌||◌, Bool, true, false, cond, Some, List, [], ◌∷◌}
use Rattle.std.proofs.Common.{◌++◌, length, map, codes, option_and_then, inl, inr, refl, sym, ap, ◌∙◌, subst, arith, lit≤, length-append}
use Rattle.std.specs.Prelude.{flat_map}
use Rattle.std.specs.List.{list_any}
use Rattle.std.specs.Option.{option_map_or}
use Rattle.std.proofs.lemmas.Bool.{cases_Bool, cases_eq}
use Rattle.std.proofs.lemmas.List.{length-map}
use Rattle.std.proofs.lemmas.List.Folds.{list_any-append}
use Rattle.launcher.specs.abs_path.Paths.{Path}
use Rattle.launcher.specs.abs_path.Prefix.{is_same}
use Rattle.launcher.proofs.OfAbsPath.Prefixes.{same_itself}
use Rattle.toml.specs.Data.{Data}
use Rattle.launcher.specs.site_table.Paths.{short_path, parent_of}
use Rattle.launcher.specs.site_table.Rows.{path_of, is_folder, is_dir_at, is_always_dir, own_causes}
use Rattle.sample_inputs.specs.Site.{numbers_from, folder_name, object_name, folder_path, object_path, dir_row, exe_row, file_row}
use Rattle.sample_inputs.specs.Site.{setuid_row, numbered_row, object_row, folder_rows, site_rows}
use Rattle.sample_inputs.proofs.Names.{number_in, folder_named, object_named}
use Rattle.sample_inputs.proofs.Numbers.{length_numbers}
use Rattle.sample_inputs.proofs.PathTexts.{folder_reads, object_reads}
use Rattle.sample_inputs.proofs.GoodRows.{IsGood, AreGood, good_behind, no_cause, place_in}
use Rattle.sample_inputs.proofs.RowCauses.{dir_causes, exe_causes, file_causes, setuid_causes}

-- the directory of a path is among some rows
abbrev pub HasFolder : List Data → Path → Type 0
HasFolder all path = list_any (is_dir_at path) all ≡ true

-- a row whose path and whose causes are known
good_row : (all : List Data) (at : ℕ) (row : Data) (path : Path) → path_of row ≡ Some path → no_cause (own_causes row)
    → place_in path ≡ at → option_map_or (is_folder all) (parent_of path) true ≡ true → IsGood all at row
good_row all at row path read own place folder = record {
  path = path;
  read = read;
  own = own;
  place = place;
  folder = ap (λ path. option_map_or (is_folder all) (option_and_then parent_of path) true) read ∙ folder;
}

folder_place : (k : ℕ) → k < 16 → place_in (folder_name k ∷ []) ≡ 3 + 65 * k
folder_place k low =
    let named = folder_named k low in
    ap (λ usr. cond usr 0 (3 + 65 * number_in (folder_name k))) named.no_usr ∙ ap (λ number. 3 + 65 * number) named.told

object_place : (k j : ℕ) → k < 16 → j < 64 → place_in (folder_name k ∷ object_name j ∷ []) ≡ 4 + 65 * k + j
object_place k j low small =
    let folder = folder_named k low in
    let object = object_named j small in
    ap (λ usr. cond usr 1 (4 + 65 * number_in (folder_name k) + number_in (object_name j))) folder.no_usr
    ∙ ap (λ number. 4 + 65 * number + number_in (object_name j)) folder.told ∙ ap (λ number. 4 + 65 * k + number) object.told

-- the row of a folder
good_folder : (all : List Data) (k : ℕ) → k < 16 → IsGood all (3 + 65 * k) (dir_row (folder_path k))
good_folder all k low =
    good_row all (3 + 65 * k) (dir_row (folder_path k)) (folder_name k ∷ []) (folder_reads k low)
    (dir_causes (folder_path k) (folder_name k ∷ []) (folder_reads k low)) (folder_place k low) refl

not_always : (k j : ℕ) → k < 16 → is_always_dir (folder_name k ∷ object_name j ∷ []) ≡ false
not_always k j low = let named = folder_named k low in ap (λ proc. proc && false) named.no_proc

or_true : (b : Bool) → (b || true) ≡ true
or_true true = refl
or_true false = refl

in_folder : (all : List Data) (path : Path) → HasFolder all path → is_folder all path ≡ true
in_folder all path h = ap (λ here. is_always_dir path || here) h ∙ or_true (is_always_dir path)

-- the row of an object, by the causes of its kind
good_object_by : (all : List Data) (k j : ℕ) (row : Data) → k < 16 → j < 64 → HasFolder all (folder_name k ∷ [])
    → path_of row ≡ short_path (object_path k j) → no_cause (own_causes row) → IsGood all (4 + 65 * k + j) row
good_object_by all k j row low small has read own =
    good_row all (4 + 65 * k + j) row (folder_name k ∷ object_name j ∷ []) (read ∙ object_reads k j low small) own
    (object_place k j low small) (in_folder all (folder_name k ∷ []) has)

good_object : (all : List Data) (n k j : ℕ) → k < 16 → j < 64 → HasFolder all (folder_name k ∷ [])
    → IsGood all (4 + 65 * k + j) (object_row n k j)
good_object all n k j low small has = by (64 * k + j + n)
  where
    by : (i : ℕ) → IsGood all (4 + 65 * k + j) (numbered_row i (object_path k j))
    by i =
        let reads = object_reads k j low small in
        let path : Path = folder_name k ∷ object_name j ∷ [] in
        elim (cases_Bool (i % 24 == 0)) [
          | inl owned ↦ rw owned (good_object_by all k j (setuid_row (object_path k j) 0) low small has refl
              (setuid_causes (object_path k j) path reads (not_always k j low)))
          | inr other ↦ rw other (elim (cases_Bool (i % 3 == 0)) [
            | inl exe ↦ rw exe (good_object_by all k j (exe_row (object_path k j)) low small has refl
                (exe_causes (object_path k j) path reads (not_always k j low)))
            | inr file ↦ rw file (good_object_by all k j (file_row (object_path k j)) low small has refl
                (file_causes (object_path k j) path reads (not_always k j low)))
          ])
        ]

good_objects : (all : List Data) (n k first count : ℕ) → k < 16 → first + count ≤ 64 → HasFolder all (folder_name k ∷ [])
    → AreGood all (4 + 65 * k + first) (map (object_row n k) (numbers_from first count))
good_objects all n k first zero low within has = tt
good_objects all n k first (suc count) low within has = (
  good_object all n k first low (omega arith) has,
  subst (λ (at : ℕ). AreGood all at (map (object_row n k) (numbers_from (first + 1) count))) (omega arith)
      (good_objects all n k (first + 1) count low (omega arith) has),
)

good_folder_rows : (all : List Data) (n k : ℕ) → k < 16 → HasFolder all (folder_name k ∷ []) → AreGood all (3 + 65 * k) (folder_rows n k)
good_folder_rows all n k low has =
    (good_folder all k low, subst (λ (at : ℕ). AreGood all at (map (object_row n k) (numbers_from 0 64))) (omega arith) (good_objects all n k 0 64 low (lit≤ tt) has))

length_folder : (n k : ℕ) → length (folder_rows n k) ≡ 65
length_folder n k = omega (arith, length-map (numbers_from 0 64) (object_row n k), length_numbers 0 64)

pub good_folders : (all : List Data) (n first count : ℕ) → first + count ≤ 16 → ((k : ℕ) → k < 16 → HasFolder all (folder_name k ∷ []))
    → AreGood all (3 + 65 * first) (flat_map (folder_rows n) (numbers_from first count))
good_folders all n first zero within has = tt
good_folders all n first (suc count) within has =
    good_behind all (3 + 65 * first) (folder_rows n first) (flat_map (folder_rows n) (numbers_from (first + 1) count))
    (good_folder_rows all n first (omega arith) (has first (omega arith)))
    (subst (λ (at : ℕ). AreGood all at (flat_map (folder_rows n) (numbers_from (first + 1) count))) (omega (arith, length_folder n first))
    (good_folders all n (first + 1) count (omega arith) has))

-- the directory of a folder is at its front
own_folder : (n k : ℕ) → k < 16 → HasFolder (folder_rows n k) (folder_name k ∷ [])
own_folder n k low =
    ap (λ here. (here && true) || list_any (is_dir_at (folder_name k ∷ [])) (map (object_row n k) (numbers_from 0 64)))
    (ap (λ path. option_map_or (λ own. is_same own (folder_name k ∷ [])) path false) (folder_reads k low)
    ∙ same_itself (folder_name k ∷ []))

-- the rows of some folders have the directory of each
any_front : (test : Data → Bool) (rows others : List Data) → list_any test rows ≡ true → list_any test (rows ++ others) ≡ true
any_front test rows others h = list_any-append test rows others ∙ ap (λ here. here || list_any test others) h

any_back : (test : Data → Bool) (rows others : List Data) → list_any test others ≡ true → list_any test (rows ++ others) ≡ true
any_back test rows others h = list_any-append test rows others ∙ ap (λ there. list_any test rows || there) h ∙ or_true (list_any test rows)

folder_there : (n k first count : ℕ) → k < 16 → first ≤ k → k < first + count
    → HasFolder (flat_map (folder_rows n) (numbers_from first count)) (folder_name k ∷ [])
folder_there n k first zero low above below = absurd (omega arith)
folder_there n k first (suc count) low above below =
    elim (cases_eq first k) [
      | inl same ↦ any_front (is_dir_at (folder_name k ∷ [])) (folder_rows n first)
          (flat_map (folder_rows n) (numbers_from (first + 1) count))
          (subst (λ (at : ℕ). HasFolder (folder_rows n at) (folder_name k ∷ [])) (sym same) (own_folder n k low))
      | inr other ↦ any_back (is_dir_at (folder_name k ∷ [])) (folder_rows n first)
          (flat_map (folder_rows n) (numbers_from (first + 1) count))
          (folder_there n k (first + 1) count low (omega arith) (omega arith))
    ]

-- the rows before those of the folders
first_rows : List Data
first_rows = dir_row (codes "/usr") ∷ dir_row (codes "/usr/bin") ∷ exe_row (codes "/usr/bin/app") ∷ []

folders_of : ℕ → List Data
folders_of n = flat_map (folder_rows n) (numbers_from 0 16)

in_parts : (n : ℕ) → site_rows n ≡ first_rows ++ folders_of n
unfolding site_rows first_rows folders_of
in_parts n = refl

folders_there : (n k : ℕ) → k < 16 → HasFolder (folders_of n) (folder_name k ∷ [])
unfolding folders_of
folders_there n k low = folder_there n k 0 16 low (omega arith) (omega arith)

folders_good : (all : List Data) (n : ℕ) → ((k : ℕ) → k < 16 → HasFolder all (folder_name k ∷ [])) → AreGood all 3 (folders_of n)
unfolding folders_of
folders_good all n has = good_folders all n 0 16 (lit≤ tt) has

first_good : (others : List Data) → AreGood (first_rows ++ others) 0 first_rows
unfolding first_rows
first_good others =
    let all = first_rows ++ others in (
      good_row all 0 (dir_row (codes "/usr")) (codes "usr" ∷ []) refl refl refl refl,
      (
        good_row all 1 (dir_row (codes "/usr/bin")) (codes "usr" ∷ codes "bin" ∷ []) refl refl refl refl,
        (good_row all 2 (exe_row (codes "/usr/bin/app")) (codes "usr" ∷ codes "bin" ∷ codes "app" ∷ []) refl refl refl refl, tt),
      ),
    )

pub all_good : (n : ℕ) → AreGood (site_rows n) 0 (site_rows n)
unfolding first_rows
all_good n =
    let all = first_rows ++ folders_of n in
    subst (λ (all : List Data). AreGood all 0 all) (sym (in_parts n))
    (good_behind all 0 first_rows (folders_of n) (first_good (folders_of n))
    (folders_good all n (λ k low. any_back (is_dir_at (folder_name k ∷ [])) first_rows (folders_of n) (folders_there n k low))))

length_folders : (n first count : ℕ) → length (flat_map (folder_rows n) (numbers_from first count)) ≡ 65 * count
length_folders n first zero = refl
length_folders n first (suc count) =
    omega (arith, length-append (folder_rows n first) (flat_map (folder_rows n) (numbers_from (first + 1) count)), length_folder n first, length_folders n (first + 1) count)

length_parts : (n : ℕ) → length (first_rows ++ folders_of n) ≡ 3 + length (folders_of n)
unfolding first_rows
length_parts n = omega arith

length_of_all : (n : ℕ) → length (folders_of n) ≡ 65 * 16
unfolding folders_of
length_of_all n = length_folders n 0 16

-- there are 1,043 of them
pub length_rows : (n : ℕ) → length (site_rows n) ≡ 1043
length_rows n = ap length (in_parts n) ∙ length_parts n ∙ ap (λ more. 3 + more) (length_of_all n)
