-- A shelf in memory.
use Rattle.std.specs.Prelude.{Vec, String, string_bytes, ℕ, ◌≡◌, List, IsTrue}
use Rattle.std.specs.declared.alloc.Global.{Global}
use Rattle.host_io.specs.Files.{Files, is_file_map}
use Rattle.host_io.specs.Calls.{ShelfCall}
use Rattle.host_io.specs.Turns.{TurnCounts, after_turn, fails_now}

-- its files, and its calls so far
pub record MemFiles : Type 0 where
  pub files : Files
  pub turns : TurnCounts

abbrev pub file_of : (String Global × Vec ℕ Global) → (List ℕ × List ℕ)
file_of file = (string_bytes file.0, file.1.items)

-- the files of the shelf are a map, and no other files agree with it
pub record AgreesMemory (shelf : MemFiles) (files : Files) : Type 0 where
  pub its_own : files ≡ shelf.files
  pub is_a_map : IsTrue (is_file_map files)

-- a call is counted, and it fails if its number is one of the failing numbers
abbrev pub AsksMemory : MemFiles → ShelfCall → MemFiles → Type 0
AsksMemory before call now = (call.failed ≡ fails_now before.turns) × (now ≡ record before { turns = after_turn before.turns })
