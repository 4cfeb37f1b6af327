-- A test that the rows of each kind pass is passed by each row of a site.
use Rattle.std.proofs.Common.{◌≡◌, ℕ, zero, suc, ◌+◌, ◌*◌, ◌%◌, ◌==◌, ◌&&◌, Bool, true, List, map, codes, inl, inr, refl, ◌∙◌}
use Rattle.std.specs.Prelude.{flat_map}
use Rattle.std.specs.List.{list_all}
use Rattle.std.proofs.lemmas.Bool.{cases_Bool}
use Rattle.std.proofs.lemmas.List.Folds.{list_all-append}
use Rattle.toml.specs.Data.{Data}
use Rattle.sample_inputs.specs.Site.{numbers_from, folder_path, object_path, dir_row, exe_row, file_row, setuid_row, numbered_row}
use Rattle.sample_inputs.specs.Site.{object_row, folder_rows, site_rows}

pub record PassesKinds (test : Data → Bool) : Type 0 where
  pub dirs : (path : List ℕ) → test (dir_row path) ≡ true
  pub exes : (path : List ℕ) → test (exe_row path) ≡ true
  pub files : (path : List ℕ) → test (file_row path) ≡ true
  pub owned : (path : List ℕ) → test (setuid_row path 0) ≡ true

two_true : (a b : Bool) → a ≡ true → b ≡ true → (a && b) ≡ true
two_true a b h k = cc

numbered : (test : Data → Bool) → PassesKinds test → (i : ℕ) (path : List ℕ) → test (numbered_row i path) ≡ true
numbered test passes i path =
    elim (cases_Bool (i % 24 == 0)) [
      | inl owned ↦ rw owned (passes.owned path)
      | inr other ↦ rw other (elim (cases_Bool (i % 3 == 0)) [
        | inl exe ↦ rw exe (passes.exes path)
        | inr file ↦ rw file (passes.files path)
      ])
    ]

objects : (test : Data → Bool) → PassesKinds test → (n k first count : ℕ)
    → list_all test (map (object_row n k) (numbers_from first count)) ≡ true
objects test passes n k first zero = refl
objects test passes n k first (suc count) =
    two_true (test (object_row n k first)) (list_all test (map (object_row n k) (numbers_from (first + 1) count)))
    (numbered test passes (64 * k + first + n) (object_path k first)) (objects test passes n k (first + 1) count)

folder : (test : Data → Bool) → PassesKinds test → (n k : ℕ) → list_all test (folder_rows n k) ≡ true
folder test passes n k = two_true (test (dir_row (folder_path k))) (list_all test (map (object_row n k) (numbers_from 0 64)))
    (passes.dirs (folder_path k)) (objects test passes n k 0 64)

folders : (test : Data → Bool) → PassesKinds test → (n first count : ℕ)
    → list_all test (flat_map (folder_rows n) (numbers_from first count)) ≡ true
folders test passes n first zero = refl
folders test passes n first (suc count) =
    list_all-append test (folder_rows n first) (flat_map (folder_rows n) (numbers_from (first + 1) count))
    ∙ two_true (list_all test (folder_rows n first)) (list_all test (flat_map (folder_rows n) (numbers_from (first + 1) count)))
    (folder test passes n first) (folders test passes n (first + 1) count)

pub each_row : (test : Data → Bool) → PassesKinds test → (n : ℕ) → list_all test (site_rows n) ≡ true
unfolding site_rows
each_row test passes n =
    two_true (test (dir_row (codes "/usr"))) _ (passes.dirs (codes "/usr"))
    (two_true (test (dir_row (codes "/usr/bin"))) _ (passes.dirs (codes "/usr/bin"))
    (two_true (test (exe_row (codes "/usr/bin/app"))) _ (passes.exes (codes "/usr/bin/app")) (folders test passes n 0 16)))
