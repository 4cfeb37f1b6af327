-- What a row that a site has at a path is.
use Rattle.std.proofs.Common.{◌≡◌, ◌∙◌, Bool, true, false, List, [], ◌∷◌, Option, Some, None, refl, cond, ap, sym, subst}
use Rattle.std.specs.Prelude.{option_map}
use Rattle.std.specs.List.{AllByRecursion}
use Rattle.kernel_laws.specs.abs_path.Paths.{Path}
use Rattle.kernel_laws.specs.abs_path.Prefix.{is_same}
use Rattle.kernel_laws.proofs.OfAbsPath.Prefixes.{same_path}
use Rattle.kernel_laws.specs.site_table.declared.kinds.RowKind.TheVariants.{Dir}
use Rattle.kernel_laws.specs.site_table.declared.row.Row.{Row}
use Rattle.kernel_laws.specs.site_table.Kinds.{is_dir}
use Rattle.kernel_laws.specs.site_table.Table.{Site, IsSite, IsRowOf, row_at}

-- its path is the one that it is found by
pub found_path : (rows : List Row) (path : Path) (found : Row) → row_at rows path ≡ Some found → found.path ≡ path
found_path [] path found e = cc
found_path (first ∷ rows) path found e = by (is_same first.path path) refl e (found_path rows path found)
  where
    by : (b : Bool) → is_same first.path path ≡ b → cond b (Some first) (row_at rows path) ≡ Some found
        → (row_at rows path ≡ Some found → found.path ≡ path) → found.path ≡ path
    by true is e more = let same : first ≡ found = cc in ap (λ (r : Row). r.path) (sym same) ∙ same_path first.path path is
    by false is e more = more e

-- what holds of each row holds of it
pub found_all : (P : Row → Type 0) (rows : List Row) (path : Path) (found : Row) → AllByRecursion P rows → row_at rows path ≡ Some found
    → P found
found_all P [] path found all e = cc
found_all P (first ∷ rows) path found all e = by (is_same first.path path) e (found_all P rows path found all.1)
  where
    by : (b : Bool) → cond b (Some first) (row_at rows path) ≡ Some found → (row_at rows path ≡ Some found → P found) → P found
    by true e more = (let same : first ≡ found = cc in subst P same all.0)
    by false e more = more e

pub found_row : (site : Site) (path : Path) (found : Row) → IsSite site → row_at site.rows path ≡ Some found → IsRowOf site.rows found
found_row site path found is e = found_all (IsRowOf site.rows) site.rows path found is.each_row e

-- a path of this kind has a row
pub record HasDir (rows : List Row) (path : Path) : Type 0 where
  pub row : Row
  pub there : row_at rows path ≡ Some row
  pub dir : is_dir row.kind ≡ true

pub has_dir : (rows : List Row) (path : Path) → option_map (λ (row : Row). row.kind) (row_at rows path) ≡ Some Dir → HasDir rows path
has_dir rows path e = by (row_at rows path) refl e
  where
    by : (o : Option Row) → row_at rows path ≡ o → option_map (λ (row : Row). row.kind) o ≡ Some Dir → HasDir rows path
    by None is e = cc
    by (Some row) is e = (let kind : row.kind ≡ Dir = cc in record { row = row; there = is; dir = ap is_dir kind })
