-- The tree of a site is read: nothing is wrong at its top, with its rows, its users or its groups.
use Rattle.std.proofs.Common.{◌≡◌, ℕ, ◌≤◌, true, false, pos, Some, Ok, List, [], ◌∷◌, ◌++◌, length, codes, refl, ap, ◌∙◌, arith, nat_lt}
use Rattle.std.proofs.Common.{le-ltb}
use Rattle.std.specs.List.{list_all}
use Rattle.toml.specs.Data.{Data, Members, integer, array, table, no_members, member}
use Rattle.toml.specs.View.{items_of}
use Rattle.launcher.specs.toml_shapes.Tree.{elements}
use Rattle.launcher.specs.toml_shapes.Keys.{is_table}
use Rattle.launcher.specs.site_table.Reading.{top_faults, size_faults, row_faults, faults_of, unless_fault, site_of_tree, site_in}
use Rattle.sample_inputs.specs.Site.{site_rows, site_users, site_groups, site_tree}
use Rattle.sample_inputs.proofs.GoodRows.{no_faults}
use Rattle.sample_inputs.proofs.EachRow.{each_row}
use Rattle.sample_inputs.proofs.SiteRows.{all_good, length_rows}

-- a tree of some rows
abbrev tree_of_rows : List Data → Members
tree_of_rows rows =
    member (codes "dynamic_uid") (integer (pos 61184))
    (member (codes "group") (array (items_of site_groups))
    (member (codes "row") (array (items_of rows))
    (member (codes "user") (array (items_of site_users)) no_members)))

pub same_elements : (rows : List Data) → elements (items_of rows) ≡ rows
same_elements [] = refl
same_elements (row ∷ rows) = ap (λ others. row ∷ others) (same_elements rows)

no_top : (rows : List Data) → list_all is_table rows ≡ true → top_faults (table (tree_of_rows rows)) ≡ []
no_top rows tables = rw (same_elements rows, tables) refl

no_size : (rows : List Data) → length rows ≤ 2048 → size_faults (table (tree_of_rows rows)) ≡ []
no_size rows few =
    let within : nat_lt 2048 (length rows) ≡ false = le-ltb 2048 (length rows) few in
    rw (same_elements rows, within) refl

nothing_wrong : (rows : List Data) → list_all is_table rows ≡ true → length rows ≤ 2048 → row_faults rows ≡ []
    → faults_of (table (tree_of_rows rows)) ≡ []
nothing_wrong rows tables few fine =
    ap (λ top. top ++ size_faults (table (tree_of_rows rows)) ++ row_faults (elements (items_of rows)) ++ [] ++ []) (no_top rows tables)
    ∙ ap (λ size. size ++ row_faults (elements (items_of rows)) ++ [] ++ []) (no_size rows few)
    ∙ ap (λ rows. row_faults rows ++ [] ++ []) (same_elements rows) ∙ ap (λ faults. faults ++ [] ++ []) fine

-- each row is a table, and there are not too many
tables : (n : ℕ) → list_all is_table (site_rows n) ≡ true
tables n = each_row is_table (record { dirs = λ path. refl; exes = λ path. refl; files = λ path. refl; owned = λ path. refl }) n

few : (n : ℕ) → length (site_rows n) ≤ 2048
few n = omega (arith, length_rows n)

pub faultless : (n : ℕ) → faults_of (table (site_tree n)) ≡ []
faultless n = nothing_wrong (site_rows n) (tables n) (few n) (no_faults (site_rows n) (all_good n))

pub site_reads : (n : ℕ) → site_of_tree (Some (site_tree n)) ≡ Ok (site_in (table (site_tree n)))
site_reads n = ap (λ faults. unless_fault faults (site_in (table (site_tree n)))) (faultless n)
