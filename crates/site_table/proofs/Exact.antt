-- The rows of a site are exactly the rows of its list.
use Rattle.std.proofs.Common.{◌≡◌, ℕ, zero, suc, ◌<◌, Bool, true, false, cond, List, [], ◌∷◌, map, length, get_or, Some, Ok, refl, sym, ap}
use Rattle.std.proofs.Common.{◌∙◌, subst, arith}
use Rattle.std.specs.Prelude.{◌||◌}
use Rattle.std.specs.List.{AllByRecursion, list_any, Contains}
use Rattle.std.specs.Option.{option_map_or}
use Rattle.std.proofs.lemmas.Bool.{false≢true, false_from_ne_true}
use Rattle.std.proofs.lemmas.List.{length-map, get_or-map}
use Rattle.std.proofs.lemmas.List.Folds.{list_any_at}
use Rattle.toml.specs.Data.{Data, Members, table}
use Rattle.abs_path.specs.Paths.{Path, is_normal, proc}
use Rattle.abs_path.specs.Prefix.{is_same}
use Rattle.abs_path.proofs.Prefixes.{same_path, same_itself}
use Rattle.site_table.specs.declared.row.Row.{Row}
use Rattle.site_table.specs.Exact.{AreExactly}
use Rattle.site_table.specs.Order.{has_row, row_placed, rows_in_order, plain_dir, with_fixed}
use Rattle.site_table.specs.Paths.{root}
use Rattle.site_table.specs.Reading.{rows_in, row_faults, faults_of, site_in, site_of, site_of_tree, tree_of}
use Rattle.site_table.specs.RowSteps.{dir_placed, fixed_placed}
use Rattle.site_table.specs.Rows.{path_of, is_row_at, is_always_dir, row_of}
use Rattle.site_table.specs.Table.{Site, AreNormal, row_at}
use Rattle.site_table.proofs.Answering.{accepted, no_faults, all_faultless}
use Rattle.site_table.proofs.Placed.{AreApart, is_same-swap, row_at-placed, row_at-in_order, none_at, normal_dir}
use Rattle.site_table.proofs.Placing.{has_placed, has_in_order, normal_in_order, fixed_is}
use Rattle.site_table.proofs.RowsRead.{row_fault, has_path, own_faultless, cause_from_fault, listed_normal}
use Rattle.site_table.proofs.SiteHolds.{apart_from, rows_faultless}

-- ---- one more directory

has_dir : (rows : List Row) (more path : Path) → is_normal more ≡ true → AreNormal rows
    → has_row (dir_placed more rows) path ≡ (is_same more path || has_row rows path)
has_dir rows more path clean all = by (has_row rows more) refl
  where
    by : (b : Bool) → has_row rows more ≡ b → has_row (cond b rows (row_placed (plain_dir more) rows)) path
        ≡ (is_same more path || has_row rows path)
    by true e = there (is_same more path) refl
      where
        there : (b : Bool) → is_same more path ≡ b → has_row rows path ≡ (b || has_row rows path)
        there true f = ap (has_row rows) (sym (same_path more path f)) ∙ e
        there false f = refl
    by false e = has_placed (plain_dir more) rows path clean all

kept : (rows : List Row) (more path : Path) (row : Row) → is_normal more ≡ true → AreNormal rows → row_at rows path ≡ Some row
    → row_at (dir_placed more rows) path ≡ Some row
kept rows more path row clean all here = by (has_row rows more) refl
  where
    by : (b : Bool) → has_row rows more ≡ b → row_at (cond b rows (row_placed (plain_dir more) rows)) path ≡ Some row
    by true e = here
    by false e = row_at-placed (plain_dir more) rows path clean all e ∙ apart (is_same more path) refl
      where
        apart : (b : Bool) → is_same more path ≡ b → cond b (Some (plain_dir more)) (row_at rows path) ≡ Some row
        apart true f = let none = none_at rows path (ap (has_row rows) (sym (same_path more path f)) ∙ e) in cc
        apart false f = here

plain_at : (rows : List Row) (path : Path) → is_normal path ≡ true → AreNormal rows → has_row rows path ≡ false
    → row_at (dir_placed path rows) path ≡ Some (plain_dir path)
plain_at rows path clean all e =
    ap (λ b. row_at (cond b rows (row_placed (plain_dir path) rows)) path) e
    ∙ row_at-placed (plain_dir path) rows path clean all e ∙ ap (λ b. cond b (Some (plain_dir path)) (row_at rows path)) (same_itself path)

-- ---- listed rows

row_found : (rows : List Row) (k : ℕ) (d : Row) → AreApart rows → k < length rows
    → row_at rows (get_or rows k d).path ≡ Some (get_or rows k d)
row_found [] k d apart lt = absurd (omega arith)
row_found (row ∷ rows) zero d apart lt = ap (λ b. cond b (Some row) (row_at rows row.path)) (same_itself row.path)
row_found (row ∷ rows) (suc k) d apart lt =
    let low : k < length rows = omega arith in
    let other : is_same (get_or rows k d).path row.path ≡ false =
    false_from_ne_true (is_same (get_or rows k d).path row.path) (λ t. false≢true (sym apart.0 ∙ list_any_at (λ one. is_same one.path row.path) rows k d low t)) in
    ap (λ b. cond b (Some row) (row_at rows (get_or rows k d).path)) (is_same-swap row.path (get_or rows k d).path ∙ other)
    ∙ row_found rows k d apart.1 low

listed_has : (rows : List Data) (path : Path) → AllByRecursion (λ row. path_of row ≡ Some (row_of row).path) rows
    → has_row (map row_of rows) path ≡ list_any (is_row_at path) rows
listed_has [] path all = refl
listed_has (row ∷ rows) path all =
    ap (λ b. b || has_row (map row_of rows) path) (sym (ap (λ found. option_map_or (λ own. is_same own path) found false) all.0))
    ∙ ap (λ b. is_row_at path row || b) (listed_has rows path all.1)

all_at : (P : Data → Type 0) (rows : List Data) (k : ℕ) (d : Data) → AllByRecursion P rows → k < length rows → P (get_or rows k d)
all_at P [] k d all lt = absurd (omega arith)
all_at P (row ∷ rows) zero d all lt = all.0
all_at P (row ∷ rows) (suc k) d all lt = all_at P rows k d all.1 (omega arith)

turned : (a b c : Bool) → (a || (b || c)) ≡ (c || (b || a))
turned true true true = refl
turned true true false = refl
turned true false true = refl
turned true false false = refl
turned false true true = refl
turned false true false = refl
turned false false true = refl
turned false false false = refl

module _ (rows : List Data) (right : row_faults rows ≡ []) where
  normal : AreNormal (map row_of rows)
  normal = listed_normal rows right

  sorted_normal : AreNormal (rows_in_order (map row_of rows))
  sorted_normal = normal_in_order (map row_of rows) normal

  apart : AreApart (map row_of rows)
  apart = apart_from rows [] rows (no_faults (row_fault rows) rows right)

  folded : AllByRecursion (λ row. path_of row ≡ Some (row_of row).path) rows
  folded = all_faultless (row_fault rows) (λ row. path_of row ≡ Some (row_of row).path) [] rows
      (λ number before row none. has_path row (own_faultless rows before row (cause_from_fault rows before number row none)))
      (no_faults (row_fault rows) rows right)

  has_sorted : (path : Path) → has_row (rows_in_order (map row_of rows)) path ≡ list_any (is_row_at path) rows
  has_sorted path = has_in_order (map row_of rows) path normal ∙ listed_has rows path folded

  table_is : fixed_placed (rows_in_order (map row_of rows)) ≡ rows_in_order (with_fixed (map row_of rows))
  table_is = fixed_is (map row_of rows) normal

  with_root_normal : AreNormal (dir_placed root (rows_in_order (map row_of rows)))
  with_root_normal = normal_dir (rows_in_order (map row_of rows)) root refl sorted_normal

  paths : (path : Path) → has_row (fixed_placed (rows_in_order (map row_of rows))) path
      ≡ (list_any (is_row_at path) rows || is_always_dir path)
  paths path =
      has_dir (dir_placed root (rows_in_order (map row_of rows))) proc path refl with_root_normal
      ∙ ap (λ b. is_same proc path || b) (has_dir (rows_in_order (map row_of rows)) root path refl sorted_normal
      ∙ ap (λ b. is_same root path || b) (has_sorted path))
      ∙ turned (is_same proc path) (is_same root path) (list_any (is_row_at path) rows)
      ∙ ap (λ b. list_any (is_row_at path) rows || (b || is_same proc path)) (is_same-swap root path)
      ∙ ap (λ b. list_any (is_row_at path) rows || (is_same path root || b)) (is_same-swap proc path)

  as_listed : (row : Data) (path : Path) → Contains rows row → path_of row ≡ Some path
      → row_at (fixed_placed (rows_in_order (map row_of rows))) path ≡ Some (row_of row)
  as_listed row path there e =
      let k : ℕ = there.0 in
      let lt : k < length rows = there.1 in
      let here : get_or (map row_of rows) k (row_of row) ≡ row_of row = get_or-map row_of rows k row (row_of row) lt ∙ ap row_of there.2 in
      let own : path_of row ≡ Some (row_of row).path = subst (λ (r : Data). path_of r ≡ Some (row_of r).path) there.2 (all_at (λ r. path_of r ≡ Some (row_of r).path) rows k row folded lt) in
      let both : Some (row_of row).path ≡ Some path = sym own ∙ e in
      let same : (row_of row).path ≡ path = cc in
      let low : k < length (map row_of rows) = let long = length-map rows row_of in omega arith in
      let found : row_at (map row_of rows) path ≡ Some (row_of row) =
      subst (λ (r : Row). row_at (map row_of rows) path ≡ Some r) here
      (subst (λ (p : Path). row_at (map row_of rows) p ≡ Some (get_or (map row_of rows) k (row_of row))) (ap (λ (r : Row). r.path) here ∙ same) (row_found (map row_of rows) k (row_of row) apart low)) in
      kept (dir_placed root (rows_in_order (map row_of rows))) proc path (row_of row) refl with_root_normal
      (kept (rows_in_order (map row_of rows)) root path (row_of row) refl sorted_normal
      (row_at-in_order (map row_of rows) path normal apart ∙ found))

  root_plain : list_any (is_row_at root) rows ≡ false → row_at (fixed_placed (rows_in_order (map row_of rows))) root ≡ Some (plain_dir root)
  root_plain none = kept (dir_placed root (rows_in_order (map row_of rows))) proc root (plain_dir root) refl with_root_normal
      (plain_at (rows_in_order (map row_of rows)) root refl sorted_normal (has_sorted root ∙ none))

  proc_plain : list_any (is_row_at proc) rows ≡ false → row_at (fixed_placed (rows_in_order (map row_of rows))) proc ≡ Some (plain_dir proc)
  proc_plain none =
      plain_at (dir_placed root (rows_in_order (map row_of rows))) proc refl with_root_normal
      (has_dir (rows_in_order (map row_of rows)) root proc refl sorted_normal ∙ has_sorted proc ∙ none)

  as_always : (path : Path) → is_always_dir path ≡ true → list_any (is_row_at path) rows ≡ false
      → row_at (fixed_placed (rows_in_order (map row_of rows))) path ≡ Some (plain_dir path)
  as_always path always none = by (is_same path root) (is_same path proc) refl refl always
    where
      by : (b c : Bool) → is_same path root ≡ b → is_same path proc ≡ c → (b || c) ≡ true
          → row_at (fixed_placed (rows_in_order (map row_of rows))) path ≡ Some (plain_dir path)
      by true c e f h =
          let same = same_path path root e in
          subst (λ (p : Path). row_at (fixed_placed (rows_in_order (map row_of rows))) p ≡ Some (plain_dir p)) (sym same)
          (root_plain (ap (λ p. list_any (is_row_at p) rows) (sym same) ∙ none))
      by false true e f h =
          let same = same_path path proc f in
          subst (λ (p : Path). row_at (fixed_placed (rows_in_order (map row_of rows))) p ≡ Some (plain_dir p)) (sym same)
          (proc_plain (ap (λ p. list_any (is_row_at p) rows) (sym same) ∙ none))
      by false false e f h = absurd (false≢true h)

  pub exactly : AreExactly rows (rows_in_order (with_fixed (map row_of rows)))
  exactly = subst (AreExactly rows) table_is (record { paths = paths; as_listed = as_listed; as_always = as_always })

pub exact_rows : (bytes : List ℕ) (members : Members) (site : Site) → tree_of bytes ≡ Some members → site_of bytes ≡ Ok site
    → AreExactly (rows_in (table members)) site.rows
exact_rows bytes members site e h =
    let read = accepted (faults_of (table members)) (site_in (table members)) site (ap site_of_tree (sym e) ∙ h) in
    subst (λ (s : Site). AreExactly (rows_in (table members)) s.rows) read.1
    (exactly (rows_in (table members)) (rows_faultless (table members) read.0))
