use Rattle.std.proofs.Common.{◌≡◌, ℕ, List, map, take}
use Rattle.toml.specs.View.{view}
use Rattle.site_table.specs.RowSteps.{has_folder}
use Rattle.site_table.specs.Texts.{has_text}
use Rattle.site_table.proofs.rows.listed_folders.Given as goal

abbrev pub invariant-loop-row : goal.invariant-loop-row
invariant-loop-row l = (text : List ℕ) → has_text l.folders text ≡ has_folder (take l.row-index (map view l.rows)) text
