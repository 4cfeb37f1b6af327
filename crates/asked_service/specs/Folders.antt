-- The folders into which no process of a launched service ever looks.
use Rattle.std.specs.Prelude.{◌≡◌, List, [], ◌∷◌, true, false}
use Rattle.judge.specs.abs_path.ByteOrder.{AreAscending}
use Rattle.judge.specs.abs_path.Paths.{Path}
use Rattle.judge.specs.site_table.declared.row.Row.{Row}
use Rattle.judge.specs.site_table.Kinds.{is_dir}
use Rattle.judge.specs.site_table.Table.{Site}
use Rattle.judge.specs.kernel_model.World.{World}
use Rattle.judge.specs.kernel_laws.Denied.{IsBlind}
use Rattle.judge.specs.kernel_ways.Blindness.{IsExposed}

-- of rows, in their order: a folder is named where no list of calls exposes what lies below it, and left out where one does;
-- what is no folder is left out
pub data NamesBlind (world : World) : List Row → List Path → Type 0 where
  no_more : NamesBlind world [] []
  named : (row : Row) (rows : List Row) (folders : List Path) → is_dir row.kind ≡ true → IsBlind world row.path
      → NamesBlind world rows folders → NamesBlind world (row ∷ rows) (row.path ∷ folders)
  exposed : (row : Row) (rows : List Row) (folders : List Path) → is_dir row.kind ≡ true → IsExposed world row.path
      → NamesBlind world rows folders → NamesBlind world (row ∷ rows) folders
  no_folder : (row : Row) (rows : List Row) (folders : List Path) → is_dir row.kind ≡ false → NamesBlind world rows folders
      → NamesBlind world (row ∷ rows) folders

-- exactly these folders of a site are blind, in byte order of their paths
pub record AreBlind (world : World) (site : Site) (folders : List Path) : Type 0 where
  pub exactly : NamesBlind world site.rows folders
  pub in_byte_order : AreAscending folders
