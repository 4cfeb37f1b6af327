-- The place of a row gives the row, and a site that is read has its properties.
use Rattle.std.proofs.Common.{◌≡◌, ℕ, Bool, true, false, cond, ltb, List, length, Option, Some, None, Ok, refl, sym, ap, ◌∙◌, subst}
use Rattle.std.specs.List.{slice_get, position_or_len}
use Rattle.std.proofs.lemmas.Bool.{ltb-false}
use Rattle.std.proofs.lemmas.List.Folds.{find_at}
use Rattle.std.proofs.lemmas.Option.{slice_get_past}
use Rattle.toml.specs.Data.{Members, table}
use Rattle.abs_path.specs.Paths.{Path}
use Rattle.abs_path.specs.Prefix.{is_same}
use Rattle.site_table.specs.declared.row.Row.{Row}
use Rattle.site_table.specs.Reading.{faults_of, site_in, site_of, site_of_tree, tree_of}
use Rattle.site_table.specs.Table.{Site, IsSite, row_at, place_of}
use Rattle.site_table.proofs.Answering.{accepted}
use Rattle.site_table.proofs.SiteHolds.{site_holds}

abbrev place_or_len : List Row → Path → ℕ
place_or_len rows path = position_or_len (λ row. is_same row.path path) rows

pub row_of_the_place : (rows : List Row) (path : Path) (at : ℕ) → place_of rows path ≡ Some at → slice_get rows at ≡ row_at rows path
row_of_the_place rows path at h = by (ltb (place_or_len rows path) (length rows)) h
  where
    by : (b : Bool) → cond b (Some (place_or_len rows path)) None ≡ Some at → slice_get rows at ≡ row_at rows path
    by true h = let same : place_or_len rows path ≡ at = cc in ap (slice_get rows) (sym same) ∙ sym (find_at (λ row. is_same row.path path) rows)
    by false h = absurd (cc)

pub no_place_no_row : (rows : List Row) (path : Path) → place_of rows path ≡ None → row_at rows path ≡ None
no_place_no_row rows path h = by (ltb (place_or_len rows path) (length rows)) refl h
  where
    by : (b : Bool) → ltb (place_or_len rows path) (length rows) ≡ b → cond b (Some (place_or_len rows path)) None ≡ None
        → row_at rows path ≡ None
    by true e h = absurd (cc)
    by false e h = find_at (λ row. is_same row.path path) rows
        ∙ slice_get_past rows (place_or_len rows path) (ltb-false (place_or_len rows path) (length rows) e)

pub accepted_holds : (bytes : List ℕ) (site : Site) → site_of bytes ≡ Ok site → IsSite site
accepted_holds bytes site h = by (tree_of bytes) h
  where
    by : (tree : Option Members) → site_of_tree tree ≡ Ok site → IsSite site
    by None h = absurd (cc)
    by (Some tree) h =
        let read = accepted (faults_of (table tree)) (site_in (table tree)) site h in
        subst IsSite read.1 (site_holds (table tree) read.0)
