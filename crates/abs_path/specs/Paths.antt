-- A normal absolute path is the list of its parts, each part the list of its bytes. The root has no part.
-- path_resolution(7): a path is resolved part by part between its slashes; `.` is the folder itself.
use Rattle.std.specs.Prelude.{◌≡◌, ◌==◌, ◌||◌, ◌&&◌, ◌≤◌, ℕ, Bool, true, false, not, filter, codes, List, [], ◌∷◌, ◌++◌, length}
use Rattle.std.specs.Str.{bytes_eq, byte as ascii}
use Rattle.std.specs.List.{slice_split, list_any, list_all}

abbrev pub Path : Type 0
Path = List (List ℕ)

-- the parts, each after a slash; the root has no such text
abbrev pub tail_of : Path → List ℕ
tail_of [] = []
tail_of (part ∷ parts) = ascii "/" ∷ part ++ tail_of parts

-- the text of a path, which is a lone slash for the root
abbrev pub text_of : Path → List ℕ
text_of [] = ascii "/" ∷ []
text_of (part ∷ parts) = tail_of (part ∷ parts)

-- the root, which has no part
abbrev pub is_root : Path → Bool
is_root [] = true
is_root (part ∷ path) = false

-- a part in the text of a path is idle if it is empty, between two slashes, or a lone dot
abbrev pub is_idle : List ℕ → Bool
is_idle part = bytes_eq part [] || bytes_eq part (codes ".")

-- the folder of the processes, proc(5)
abbrev pub proc : Path
proc = codes "proc" ∷ []

-- the pieces between the slashes of a text
abbrev pub pieces_of : List ℕ → List (List ℕ)
pieces_of text = slice_split (λ byte. byte == ascii "/") text

-- the parts of a text between its slashes, without the idle ones
abbrev pub parts_of : List ℕ → Path
parts_of text = filter (λ part. not (is_idle part)) (pieces_of text)

-- a part of a normal path has no slash and no NUL, and is not empty, `.` or `..`
abbrev pub is_part : List ℕ → Bool
is_part part = (not (list_any (λ byte. byte == ascii "/") part) && not (list_any (λ byte. byte == 0) part)) &&
    (not (is_idle part) && not (bytes_eq part (codes "..")))

abbrev pub is_normal : Path → Bool
is_normal path = list_all is_part path

-- the bytes of a normal path of at most 512 bytes, without the root's lone slash
pub record IsTail (bytes : List ℕ) : Type 0 where
  pub normal : is_normal (parts_of bytes) ≡ true
  pub whole : tail_of (parts_of bytes) ≡ bytes
  pub short : length bytes ≤ 512
