-- Bytes may be text, some lines of a text count, and lines have words.
use Rattle.std.specs.Prelude.{ℕ, ◌==◌, ◌&&◌, not, cond, Bool, true, Option, Some, None, List, [], ◌∷◌, length, map, filter}
use Rattle.std.specs.List.{slice_split, enumerate_from, list_any}
use Rattle.std.specs.Str.{is_utf8}

-- a text is UTF-8 without NUL
abbrev pub is_text : List ℕ → Bool
is_text bytes = is_utf8 bytes && not (list_any (λ byte. byte == 0) bytes)

-- the bytes, if they are text
unfoldable pub text_of : List ℕ → Option (List ℕ)
text_of bytes = cond (is_text bytes) (Some bytes) None

-- a line of a text, with its number
pub record Line : Type 0 where
  pub number : ℕ
  pub text : List ℕ

abbrev pub line_of : ℕ × List ℕ → Line
line_of line = record { number = line.0; text = line.1 }

-- an empty line is skipped, and so is a line whose first character is `#`
abbrev pub is_skipped : List ℕ → Bool
is_skipped [] = true
is_skipped (byte ∷ text) = byte == 35

-- the lines that are not skipped, which keep their numbers
abbrev pub counted_from : ℕ → List (List ℕ) → List Line
counted_from number texts = filter (λ line. not (is_skipped line.text)) (map line_of (enumerate_from number texts))

-- the lines of a text, which is cut at each LF, numbered from 1
abbrev pub lines_of : List ℕ → List Line
lines_of text = counted_from 1 (slice_split (λ byte. byte == 10) text)

-- the words of a line: the text between spaces
abbrev pub words_of : List ℕ → List (List ℕ)
words_of text = filter (λ word. not (length word == 0)) (slice_split (λ byte. byte == 32) text)
