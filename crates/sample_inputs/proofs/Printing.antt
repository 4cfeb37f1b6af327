-- The tree of a site is one that is printed and read back: it is not deep, and has no date.
use Rattle.std.proofs.Common.{◌≡◌, ℕ, ◌≤◌, ◌==◌, ◌&&◌, Bool, true, List, [], ◌∷◌, refl, arith}
use Rattle.std.specs.List.{list_all}
use Rattle.std.proofs.lemmas.Bool.{and_parts, eqb-true}
use Rattle.toml.specs.Data.{Data, depth, items_depth, members_depth, has_valid_dates, items_have_valid_dates, members_have_valid_dates}
use Rattle.toml.specs.View.{items_of}
use Rattle.sample_inputs.specs.Site.{site_rows, site_tree}
use Rattle.sample_inputs.proofs.EachRow.{each_row}

-- a table of texts and numbers
abbrev is_flat : Data → Bool
is_flat row = (depth row == 1) && has_valid_dates row

flat_rows : (n : ℕ) → list_all is_flat (site_rows n) ≡ true
flat_rows n = each_row is_flat (record { dirs = λ path. refl; exes = λ path. refl; files = λ path. refl; owned = λ path. refl }) n

rows_depth : (rows : List Data) → list_all is_flat rows ≡ true → items_depth (items_of rows) ≤ 1
rows_depth [] flat = omega arith
rows_depth (row ∷ rows) flat =
    let (here, more) = and_parts (is_flat row) (list_all is_flat rows) flat in
    let (low, dates) = and_parts (depth row == 1) (has_valid_dates row) here in
    omega (arith, eqb-true (depth row) 1 low, rows_depth rows more)

rows_dates : (rows : List Data) → list_all is_flat rows ≡ true → items_have_valid_dates (items_of rows) ≡ true
rows_dates [] flat = refl
rows_dates (row ∷ rows) flat =
    let (here, more) = and_parts (is_flat row) (list_all is_flat rows) flat in
    let (low, dates) = and_parts (depth row == 1) (has_valid_dates row) here in
    rw (dates, rows_dates rows more)

pub site_depth : (n : ℕ) → members_depth (site_tree n) ≤ 80
site_depth n = omega (arith, rows_depth (site_rows n) (flat_rows n))

pub site_dates : (n : ℕ) → members_have_valid_dates (site_tree n) ≡ true
site_dates n = rw (rows_dates (site_rows n) (flat_rows n))
