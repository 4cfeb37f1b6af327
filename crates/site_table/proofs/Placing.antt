-- Rows are put in byte order of their paths.
use Rattle.std.proofs.Common.{◌≡◌, Bool, true, false, cond, List, [], ◌∷◌, refl, sym, ap, ◌∙◌}
use Rattle.std.specs.Prelude.{◌||◌, not, filter, fold}
use Rattle.std.specs.List.{AllByRecursion}
use Rattle.std.proofs.lemmas.List.Sums.{fold-append}
use Rattle.abs_path.specs.Paths.{Path, is_normal, proc}
use Rattle.abs_path.specs.Prefix.{is_same}
use Rattle.abs_path.specs.ByteOrder.{is_before}
use Rattle.abs_path.proofs.Placed.{neither_before}
use Rattle.site_table.specs.declared.row.Row.{Row}
use Rattle.site_table.specs.Order.{has_row, row_placed, rows_in_order, plain_dir, with_fixed}
use Rattle.site_table.specs.Paths.{root}
use Rattle.site_table.specs.RowSteps.{dir_placed, fixed_placed}
use Rattle.site_table.specs.Table.{AreNormal}

-- a property of a row and of others holds of all after the row is placed among them
pub all_placed : (P : Row → Type 0) (row : Row) (rows : List Row) → P row → AllByRecursion P rows → AllByRecursion P (row_placed row rows)
all_placed P row [] here all = (here, tt)
all_placed P row (first ∷ rows) here all = by (is_before row.path first.path) (is_before first.path row.path)
    (all_placed P row rows here all.1)
  where
    by : (b c : Bool) → AllByRecursion P (row_placed row rows)
        → AllByRecursion P (cond b (row ∷ first ∷ rows) (cond c (first ∷ row_placed row rows) (first ∷ rows)))
    by true c more = (here, all)
    by false true more = (all.0, more)
    by false false more = all

or_swap : (a b c : Bool) → (a || (b || c)) ≡ (b || (a || c))
or_swap true true c = refl
or_swap true false c = refl
or_swap false true c = refl
or_swap false false c = refl

or_twice : (a c : Bool) → (a || c) ≡ (a || (a || c))
or_twice true c = refl
or_twice false c = refl

-- if neither of two rows precedes the other, they have the same path
pub one_path : (row first : Row) → is_normal row.path ≡ true → is_normal first.path ≡ true → is_before row.path first.path ≡ false
    → is_before first.path row.path ≡ false → first.path ≡ row.path
one_path row first here there e f = neither_before first.path row.path there here f e

-- after a row is placed among rows, they have its path too
pub has_placed : (row : Row) (rows : List Row) (path : Path) → is_normal row.path ≡ true → AreNormal rows
    → has_row (row_placed row rows) path ≡ (is_same row.path path || has_row rows path)
has_placed row [] path here all = refl
has_placed row (first ∷ rows) path here all = by (is_before row.path first.path) (is_before first.path row.path) refl refl
    (has_placed row rows path here all.1)
  where
    by : (b c : Bool) → is_before row.path first.path ≡ b → is_before first.path row.path ≡ c
        → has_row (row_placed row rows) path ≡ (is_same row.path path || has_row rows path)
        → has_row (cond b (row ∷ first ∷ rows) (cond c (first ∷ row_placed row rows) (first ∷ rows))) path
        ≡ (is_same row.path path || (is_same first.path path || has_row rows path))
    by true c e f more = refl
    by false true e f more =
        ap (λ b. is_same first.path path || b) more ∙ or_swap (is_same first.path path) (is_same row.path path) (has_row rows path)
    by false false e f more =
        or_twice (is_same first.path path) (has_row rows path)
        ∙ ap (λ p. is_same p path || (is_same first.path path || has_row rows path)) (one_path row first here all.0 e f)

-- the same holds of several rows
has_folded : (sorted rows : List Row) (path : Path) → AreNormal sorted → AreNormal rows
    → has_row (fold (λ sorted row. row_placed row sorted) sorted rows) path ≡ (has_row sorted path || has_row rows path)
has_folded sorted [] path so_far all = or_none (has_row sorted path)
  where
    or_none : (b : Bool) → b ≡ (b || false)
    or_none true = refl
    or_none false = refl
has_folded sorted (row ∷ rows) path so_far all =
    has_folded (row_placed row sorted) rows path (all_placed (λ r. is_normal r.path ≡ true) row sorted all.0 so_far) all.1
    ∙ ap (λ b. b || has_row rows path) (has_placed row sorted path all.0 so_far)
    ∙ around (is_same row.path path) (has_row sorted path) (has_row rows path)
  where
    around : (a b c : Bool) → ((a || b) || c) ≡ (b || (a || c))
    around true true c = refl
    around true false c = refl
    around false true c = refl
    around false false c = refl

pub has_in_order : (rows : List Row) (path : Path) → AreNormal rows → has_row (rows_in_order rows) path ≡ has_row rows path
has_in_order rows path all = has_folded [] rows path tt all

normal_folded : (sorted rows : List Row) → AreNormal sorted → AreNormal rows
    → AreNormal (fold (λ sorted row. row_placed row sorted) sorted rows)
normal_folded sorted [] so_far all = so_far
normal_folded sorted (row ∷ rows) so_far all = normal_folded (row_placed row sorted) rows
    (all_placed (λ r. is_normal r.path ≡ true) row sorted all.0 so_far) all.1

-- ---- with `/` and `/proc`

pub normal_in_order : (rows : List Row) → AreNormal rows → AreNormal (rows_in_order rows)
normal_in_order rows all = normal_folded [] rows tt all

abbrev fixed_by : Bool → Bool → List Row
fixed_by b c = cond (not b) (plain_dir root ∷ cond (not c) (plain_dir proc ∷ []) []) (cond (not c) (plain_dir proc ∷ []) [])

pub fixed_is : (listed : List Row) → AreNormal listed → fixed_placed (rows_in_order listed) ≡ rows_in_order (with_fixed listed)
fixed_is listed all =
    by (has_row listed root) (has_row listed proc) (has_in_order listed root all) (has_in_order listed proc all)
    ∙ sym (fold-append (λ sorted row. row_placed row sorted) [] listed
    (filter (λ row. not (has_row listed row.path)) (plain_dir root ∷ plain_dir proc ∷ [])))
  where
    sorted : List Row
    sorted = rows_in_order listed

    behind_root : has_row (row_placed (plain_dir root) sorted) proc ≡ has_row sorted proc
    behind_root = has_placed (plain_dir root) sorted proc refl (normal_in_order listed all)

    by : (b c : Bool) → has_row (rows_in_order listed) root ≡ b → has_row (rows_in_order listed) proc ≡ c
        → dir_placed proc (cond (has_row (rows_in_order listed) root) (rows_in_order listed)
        (row_placed (plain_dir root) (rows_in_order listed)))
        ≡ fold (λ sorted row. row_placed row sorted) (rows_in_order listed) (fixed_by b c)
    by true true e f =
        ap (λ x. dir_placed proc (cond x sorted (row_placed (plain_dir root) sorted))) e
        ∙ ap (λ x. cond x sorted (row_placed (plain_dir proc) sorted)) f
    by true false e f =
        ap (λ x. dir_placed proc (cond x sorted (row_placed (plain_dir root) sorted))) e
        ∙ ap (λ x. cond x sorted (row_placed (plain_dir proc) sorted)) f
    by false true e f =
        ap (λ x. dir_placed proc (cond x sorted (row_placed (plain_dir root) sorted))) e
        ∙ ap (λ x. cond x (row_placed (plain_dir root) sorted) (row_placed (plain_dir proc) (row_placed (plain_dir root) sorted)))
        (behind_root ∙ f)
    by false false e f =
        ap (λ x. dir_placed proc (cond x sorted (row_placed (plain_dir root) sorted))) e
        ∙ ap (λ x. cond x (row_placed (plain_dir root) sorted) (row_placed (plain_dir proc) (row_placed (plain_dir root) sorted)))
        (behind_root ∙ f)
