-- The rows of a site are exactly the rows of its list.
use Rattle.std.specs.Prelude.{◌≡◌, ◌||◌, true, false, List, Some}
use Rattle.std.specs.List.{list_any, Contains}
use Rattle.toml.specs.Data.{Data}
use Rattle.abs_path.specs.Paths.{Path}
use Rattle.site_table.specs.declared.row.Row.{Row}
use Rattle.site_table.specs.Order.{has_row, plain_dir}
use Rattle.site_table.specs.Rows.{path_of, is_row_at, is_always_dir, row_of}
use Rattle.site_table.specs.Table.{row_at}

-- the rows have exactly the listed paths, and `/` and `/proc`. The row of a listed path is the row in the list. `/` and `/proc` are
-- directories, and have no other properties if they are not listed
pub record AreExactly (listed : List Data) (rows : List Row) : Type 0 where
  pub paths : (path : Path) → has_row rows path ≡ (list_any (is_row_at path) listed || is_always_dir path)
  pub as_listed : (row : Data) (path : Path) → Contains listed row → path_of row ≡ Some path → row_at rows path ≡ Some (row_of row)
  pub as_always : (path : Path) → is_always_dir path ≡ true → list_any (is_row_at path) listed ≡ false
      → row_at rows path ≡ Some (plain_dir path)
