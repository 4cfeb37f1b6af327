-- A text has a path, or a first fault.
use Rattle.std.specs.Prelude.{◌≡◌, ◌==◌, ⊤, ℕ, cond, nat_lt, nat_eq, List, length, codes, Option, Some, None, Result, Ok, Err}
use Rattle.std.specs.List.{list_any, starts_with}
use Rattle.std.specs.Str.{bytes_eq}
use Rattle.abs_path.specs.declared.error.PathError.{PathError}
use Rattle.abs_path.specs.declared.error.PathError.TheVariants.{TooLong, HasNul, Relative, DotDot, Memory}
use Rattle.abs_path.specs.Paths.{Path, pieces_of, parts_of}

-- the first fault of a text: more than 512 bytes, a NUL, no slash in front, a part `..`
abbrev pub fault_of : List ℕ → Option PathError
fault_of text =
    cond (nat_lt 512 (length text)) (Some TooLong)
    (cond (list_any (λ byte. byte == 0) text) (Some HasNul)
    (cond (starts_with nat_eq text (codes "/"))
    (cond (list_any (λ piece. bytes_eq piece (codes "..")) (pieces_of text)) (Some DotDot) None)
    (Some Relative)))

-- the parts of a text without fault, or its first fault; memory may run out at any text
abbrev pub Reads : List ℕ → Result Path PathError → Type 0
Reads text (Ok path) = (fault_of text ≡ None) × (path ≡ parts_of text)
Reads text (Err Memory) = ⊤
Reads text (Err fault) = fault_of text ≡ Some fault
