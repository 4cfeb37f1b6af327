-- The answers of a folder so far, and the files that agree with them.
use Rattle.std.specs.Prelude.{◌≡◌, ◌<◌, ◌≤◌, ◌==◌, ℕ, List, [], ◌∷◌, length, map, cond, string_bytes, Option, Some, None, refl, ⊤, IsTrue}
use Rattle.std.specs.Prelude.{Vec, String, Result, Ok, Err}
use Rattle.std.specs.Coded.{Coded, code_by, coded×, coded_ℕ, coded_list}
use Rattle.std.specs.declared.alloc.Global.{Global}
use Rattle.host_io.specs.Files.{Files, bytes_at, names_in, is_file_map}
use Rattle.host_io.specs.Reading.{ListsNames}
use Rattle.host_io.specs.declared.reading.ShelfError.{ShelfError}
use Rattle.host_io.specs.declared.reading.ShelfError.TheVariants.{Missing, TooLarge, Failed, Memory}

-- an answer: the bytes of a file with at most so many, a missing file, a file with more bytes; the names of a folder, a folder
-- without names, a folder with too many; or no answer, as the outside world failed or memory ran out
pub data Answer : Type 0 where
  Bytes : (path : List ℕ) (limit : ℕ) (bytes : List ℕ) → Answer
  NoFile : (path : List ℕ) → Answer
  MoreBytes : (path : List ℕ) (limit : ℕ) → Answer
  Names : (folder : List ℕ) (names : List (List ℕ)) → Answer
  NoNames : (folder : List ℕ) → Answer
  MoreNames : (folder : List ℕ) → Answer
  NoAnswer : Answer

-- the answer to a read of a file
abbrev pub file_answer : List ℕ → ℕ → Result (Vec ℕ Global) ShelfError → Answer
file_answer path limit (Ok bytes) = Bytes path limit bytes.items
file_answer path limit (Err Missing) = NoFile path
file_answer path limit (Err TooLarge) = MoreBytes path limit
file_answer path limit (Err Failed) = NoAnswer
file_answer path limit (Err Memory) = NoAnswer

-- the answer to a listing of a folder
abbrev pub folder_answer : List ℕ → Result (Vec (String Global) Global) ShelfError → Answer
folder_answer folder (Ok names) = Names folder (map string_bytes names.items)
folder_answer folder (Err Missing) = NoNames folder
folder_answer folder (Err TooLarge) = MoreNames folder
folder_answer folder (Err Failed) = NoAnswer
folder_answer folder (Err Memory) = NoAnswer

-- a file with these bytes, or a missing file, has more than so many bytes
abbrev pub HasMore : ℕ → Option (List ℕ) → Type 0
HasMore limit None = ⊥
HasMore limit (Some bytes) = limit < length bytes

-- the files give this answer
abbrev pub Gives : Files → Answer → Type 0
Gives files (Bytes path limit bytes) = (bytes_at files path ≡ Some bytes) × (length bytes ≤ limit)
Gives files (NoFile path) = bytes_at files path ≡ None
Gives files (MoreBytes path limit) = HasMore limit (bytes_at files path)
Gives files (Names folder names) = ListsNames (names_in files folder) names
Gives files (NoNames folder) = length (names_in files folder) ≡ 0
Gives files (MoreNames folder) = 4096 < length (names_in files folder)
Gives files NoAnswer = ⊤

-- the files give all these answers
abbrev pub GivesAll : List Answer → Files → Type 0
GivesAll [] files = ⊤
GivesAll (answer ∷ answers) files = Gives files answer × GivesAll answers files

-- no path begins with a slash or occurs twice, and the files give all these answers
abbrev pub AgreesWith : List Answer → Files → Type 0
AgreesWith answers files = IsTrue (is_file_map files) × GivesAll answers files

-- how the logic stores an answer
abbrev Parts : Type 0
Parts = ℕ × (List ℕ × (ℕ × (List ℕ × List (List ℕ))))

abbrev to_parts : Answer → Parts
to_parts (Bytes path limit bytes) = (0, (path, (limit, (bytes, []))))
to_parts (NoFile path) = (1, (path, (0, ([], []))))
to_parts (MoreBytes path limit) = (2, (path, (limit, ([], []))))
to_parts (Names folder names) = (3, (folder, (0, ([], names))))
to_parts (NoNames folder) = (4, (folder, (0, ([], []))))
to_parts (MoreNames folder) = (5, (folder, (0, ([], []))))
to_parts NoAnswer = (6, ([], (0, ([], []))))

abbrev from_parts : Parts → Answer
from_parts p =
    cond (p.0 == 0) (Bytes p.1.0 p.1.1.0 p.1.1.1.0) (cond (p.0 == 1) (NoFile p.1.0) (cond (p.0 == 2) (MoreBytes p.1.0 p.1.1.0)
    (cond (p.0 == 3) (Names p.1.0 p.1.1.1.1) (cond (p.0 == 4) (NoNames p.1.0) (cond (p.0 == 5) (MoreNames p.1.0) NoAnswer)))))

pub from_parts-to_parts : (answer : Answer) → from_parts (to_parts answer) ≡ answer
from_parts-to_parts (Bytes path limit bytes) = refl
from_parts-to_parts (NoFile path) = refl
from_parts-to_parts (MoreBytes path limit) = refl
from_parts-to_parts (Names folder names) = refl
from_parts-to_parts (NoNames folder) = refl
from_parts-to_parts (MoreNames folder) = refl
from_parts-to_parts NoAnswer = refl

abbrev pub answers_code : Coded (List Answer)
answers_code = coded_list (code_by Parts (coded× coded_ℕ (coded× (coded_list coded_ℕ) (coded× coded_ℕ (coded× (coded_list coded_ℕ) (coded_list (coded_list coded_ℕ)))))) to_parts from_parts from_parts-to_parts)
