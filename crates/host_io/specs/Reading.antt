-- A shelf answers by the files that agree with it.
use Rattle.std.specs.Prelude.{Vec, String, string_bytes, ◌≡◌, ◌<◌, ℕ, ◌≤◌, List, length, map, IsErrOf, Option, Some, None, Result, Ok, Err}
use Rattle.std.specs.Prelude.{⊤}
use Rattle.std.specs.List.{IsDistinct}
use Rattle.std.specs.List.Sorted.{IsPermutation}
use Rattle.std.specs.Str.{bytes_eq}
use Rattle.std.specs.declared.alloc.Global.{Global}
use Rattle.host_io.specs.declared.reading.ShelfError.{ShelfError}
use Rattle.host_io.specs.declared.reading.ShelfError.TheVariants.{Missing, TooLarge, Failed, Memory}
use Rattle.host_io.specs.Causes.{Rose}
use Rattle.host_io.specs.Files.{Files, bytes_at, names_in}

-- the answer of a shelf for a file with these bytes, or for a missing file
abbrev pub AnswersFile : Option (List ℕ) → ℕ → Result (Vec ℕ Global) ShelfError → Type 0
AnswersFile None limit (Ok v) = ⊥
AnswersFile (Some bytes) limit (Ok v) = (v.items ≡ bytes) × (length bytes ≤ limit)
AnswersFile None limit (Err Missing) = ⊤
AnswersFile (Some bytes) limit (Err Missing) = ⊥
AnswersFile None limit (Err TooLarge) = ⊥
AnswersFile (Some bytes) limit (Err TooLarge) = limit < length bytes
AnswersFile file limit (Err Failed) = ⊤
AnswersFile file limit (Err Memory) = ⊤

-- the answer has the names of a folder, each of them once, in any order
pub record ListsNames (names answered : List (List ℕ)) : Type 0 where
  pub names_of_the_folder : IsPermutation names answered
  pub each_once : IsDistinct bytes_eq names
  pub some_name : 0 < length names
  pub not_too_many : length names ≤ 4096

-- the answer of a shelf for a folder with these names
abbrev pub AnswersFolder : List (List ℕ) → Result (Vec (String Global) Global) ShelfError → Type 0
AnswersFolder names (Ok v) = ListsNames names (map string_bytes v.items)
AnswersFolder names (Err Missing) = length names ≡ 0
AnswersFolder names (Err TooLarge) = 4096 < length names
AnswersFolder names (Err Failed) = ⊤
AnswersFolder names (Err Memory) = ⊤

-- the answer of a read over these files
abbrev pub Reads : Files → List ℕ → ℕ → Result (Vec ℕ Global) ShelfError → Type 0
Reads files path limit result = AnswersFile (bytes_at files path) limit result

-- the answer of a listing over these files
abbrev pub Lists : Files → List ℕ → Result (Vec (String Global) Global) ShelfError → Type 0
Lists files folder result = AnswersFolder (names_in files folder) result

-- the count of faults does not fall, and it rises if the answer is `Failed`
pub record HasCause {T : Type 0} (before now : ℕ) (result : Result T ShelfError) : Type 0 where
  pub later : before ≤ now
  pub failed : IsErrOf result Failed → Rose before now
