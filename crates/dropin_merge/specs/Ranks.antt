-- The winner of a file name among all paths of the map at once (systemd.unit(5), Description: drop-in files).
use Rattle.std.specs.Prelude.{◌≡◌, ◌↔◌, ◌≤◌, ℕ, true, Some, List}
use Rattle.std.specs.List.{Contains, slice_get}
use Rattle.std.specs.List.Sorted.{IsStrictlySortedBy}
use Rattle.std.specs.Map.{keys_of}
use Rattle.std.specs.Ordering.{nat_cmp}
use Rattle.std.specs.Cmp.Lexicographic.{slice_cmp}
use Rattle.host_io.specs.Files.{Files}
use Rattle.unit_names.specs.Names.{Name}
use Rattle.dropin_merge.specs.Places.{below, dropin_places}
use Rattle.dropin_merge.specs.Winners.{is_there, is_conf}

-- a path of the map is a drop-in of this file name and rank: it lies directly in the place of that rank
pub record IsDropin (files : Files) (places : List (List ℕ)) (name path : List ℕ) (rank : ℕ) : Type 0 where
  pub counts : is_conf name ≡ true
  pub place : List ℕ
  pub ranked : slice_get places rank ≡ Some place
  pub lies : path ≡ below place name
  pub there : is_there files path ≡ true

-- a drop-in wins its file name if no drop-in of that name has a lesser rank
pub record Wins (files : Files) (places : List (List ℕ)) (name path : List ℕ) : Type 0 where
  pub rank : ℕ
  pub dropin : IsDropin files places name path rank
  pub least : (other : List ℕ) (higher : ℕ) → IsDropin files places name other higher → rank ≤ higher

-- the pairs of a file name and its winning path are complete and in byte order of file names, each name once
pub record AreWinners (files : Files) (unit : Name) (winners : List (List ℕ × List ℕ)) : Type 0 where
  pub in_order : IsStrictlySortedBy (slice_cmp nat_cmp) (keys_of winners)
  pub exactly : (name path : List ℕ) → Contains winners (name, path) ↔ Wins files (dropin_places unit) name path
