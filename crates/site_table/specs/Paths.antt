-- The paths of rows.
use Rattle.std.specs.Prelude.{ℕ, nat_le, ◌&&◌, cond, is_none, List, [], ◌∷◌, length, take, Option, Some, None}
use Rattle.abs_path.specs.Paths.{Path, text_of, parts_of}
use Rattle.abs_path.specs.Read.{fault_of}

-- the path of a text without a fault, which has at most 250 bytes once it is folded
abbrev pub short_path : List ℕ → Option Path
short_path text = cond (is_none (fault_of text) && nat_le (length (text_of (parts_of text))) 250) (Some (parts_of text)) None

-- the folder of a path; the root has no folder
abbrev pub parent_of : Path → Option Path
parent_of [] = None
parent_of (part ∷ parts) = Some (take (length parts) (part ∷ parts))

abbrev pub root : Path
root = []
