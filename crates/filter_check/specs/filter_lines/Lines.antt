-- The lines of a file of instructions.
use Rattle.std.specs.Prelude.{◌≡◌, ℕ, ◌+◌, ◌-◌, ◌<◌, ◌^◌, ◌==◌, List, [], ◌∷◌, ◌++◌, length, take, flat_map, slice_get, Some}
use Rattle.std.specs.List.{All, slice_split}
use Rattle.filter_check.specs.filter_lines.Digits.{hex_byte}

-- the line is the eight bytes of an instruction, in sixteen lower-case hex digits
pub record IsLine (line bytes : List ℕ) : Type 0 where
  pub eight : length bytes ≡ 8
  pub small : All (λ byte. byte < 2 ^ 8) bytes
  pub digits : flat_map hex_byte bytes ≡ line

-- the lines of a text end at its line feeds; text after the last line feed is not a line
abbrev pub lines_in : List ℕ → List (List ℕ)
lines_in text =
    let pieces = slice_split (λ byte. byte == 10) text in
    take (length pieces - 1) pieces

-- all lines are instructions, and these are their bytes together
abbrev pub AreLines : List (List ℕ) → List ℕ → Type 0
AreLines [] bytes = bytes ≡ []
AreLines (line ∷ lines) bytes = (own rest : List ℕ) × IsLine line own × AreLines lines rest × (bytes ≡ own ++ rest)

-- the line with this number, from 1, is the first that is no instruction
pub record IsFirstOther (lines : List (List ℕ)) (number : ℕ) : Type 0 where
  pub place : ℕ
  pub counted : number ≡ place + 1
  pub line : List ℕ
  pub found : slice_get lines place ≡ Some line
  pub is_none : (bytes : List ℕ) → IsLine line bytes → ⊥
  pub bytes_before : List ℕ
  pub before : AreLines (take place lines) bytes_before
