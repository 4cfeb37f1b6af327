-- The directories of a site, which are folders in the words of the kernel's laws.
use Rattle.std.proofs.Common.{◌≡◌, ◌∙◌, ◌<◌, ℕ, List, Some, ap, sym, subst, length}
use Rattle.std.specs.Prelude.{get_or, slice_get, option_map}
use Rattle.std.proofs.lemmas.Option.{slice_get-get_or}
use Rattle.ceilings.specs.abs_path.Paths.{Path}
use Rattle.ceilings.specs.site_table.Table.{Site, IsSite, kind_at}
use Rattle.ceilings.specs.site_table.declared.kinds.RowKind.TheVariants.{Dir}
use Rattle.ceilings.specs.site_table.declared.row.Row.{Row}
use Rattle.ceilings.specs.kernel_laws.Blind.{IsFolder}
use Rattle.ceilings.proofs.OfKernelWays.Rows.{known_at}
use Rattle.ceilings.proofs.OfReachPaths.RowsOfSites.{found_path, found_row, has_dir}

pub dir_is_folder : (site : Site) (path : Path) → IsSite site → kind_at site.rows path ≡ Some Dir → IsFolder path
dir_is_folder site path is e =
    let dir = has_dir site.rows path e in
    let of = found_row site path dir.row is dir.there in
    subst (λ (p : Path). IsFolder p) (found_path site.rows path dir.row dir.there) (record { normal = of.normal; short = of.short })

-- a row that is a directory is one by its path
pub dir_listed : (site : Site) → IsSite site → (at : ℕ) (row : Row) → slice_get site.rows at ≡ Some row → row.kind ≡ Dir
    → kind_at site.rows row.path ≡ Some Dir
dir_listed site is at row listed dir = ap (option_map (λ (r : Row). r.kind)) (known_at site is at row listed) ∙ ap (λ kind. Some kind) dir

-- the same in a loop over the rows
pub dir_at : (site : Site) → IsSite site → (rows : List Row) → rows ≡ site.rows → (at : ℕ) → at < length rows → (row : Row)
    → row ≡ get_or rows at row → row.kind ≡ Dir → kind_at site.rows row.path ≡ Some Dir
dir_at site is rows same at inside row own dir = dir_listed site is at row
    (ap (λ (rs : List Row). slice_get rs at) (sym same) ∙ slice_get-get_or rows at row inside ∙ ap (λ (r : Row). Some r) (sym own)) dir
