-- systemd.syntax(7), Quoting: a text is split into words at white space, with quotes and escapes. Escapes are read
-- first, then quotes are found, and then the text is cut at the remaining white space.
use Rattle.std.specs.Prelude.{ℕ, Bool, true, false, ◌==◌, ◌&&◌, ◌||◌, ◌+◌, ◌*◌, if◌then◌else◌, cond, is_some, List, [], ◌∷◌, map, filter}
use Rattle.std.specs.Prelude.{fold, Option, Some, None, Result, Ok, Err}
use Rattle.std.specs.Char.{is_digit, digit_value}
use Rattle.std.specs.List.{list_all, slice_split}
use Rattle.std.specs.Str.{is_utf8, byte as ascii}
use Rattle.text_forms.specs.declared.error.WordsError.{WordsError}
use Rattle.text_forms.specs.declared.error.WordsError.TheVariants.{Escape, Quote, NotText}
use Rattle.text_forms.specs.declared.splitting.symbols.Symbol.{Symbol}
use Rattle.text_forms.specs.declared.splitting.symbols.Symbol.TheVariants.{Plain, Escaped}
use Rattle.text_forms.specs.declared.splitting.marks.Mark.{Mark}
use Rattle.text_forms.specs.declared.splitting.marks.Mark.TheVariants.{Part, Edge, Gap}

-- ---- escapes: a symbol is a plain byte, or a byte that an escape gives

abbrev pub is_backslash : ℕ → Bool
is_backslash byte = byte == ascii "\\"

-- the byte of the escape with this letter, except for `x`: a backslash, a quote or a space means itself, and `s`, `n`, `t` mean a
-- space, a line feed (10), a tab (9)
unfoldable pub escape_of : ℕ → Option ℕ
escape_of letter =
    if (letter == ascii "\\" || letter == ascii "\"") || (letter == ascii "'" || letter == ascii " ") then Some letter
    else if letter == ascii "s" then Some (ascii " ")
    else if letter == ascii "n" then Some 10
    else if letter == ascii "t" then Some 9
    else None

abbrev pub is_hex_digit : ℕ → Bool
is_hex_digit digit = is_digit digit 16

abbrev pub with_symbol : Symbol → Option (List Symbol) → Option (List Symbol)
with_symbol symbol None = None
with_symbol symbol (Some symbols) = Some (symbol ∷ symbols)

abbrev pub with_escaped : Option ℕ → Option (List Symbol) → Option (List Symbol)
with_escaped None symbols = None
with_escaped (Some byte) symbols = with_symbol (Escaped byte) symbols

unfoldable mutual
  -- the symbols of a text; None where an escape is unknown or cut
  pub symbols_of : List ℕ → Option (List Symbol)
  symbols_of [] = Some []
  symbols_of (byte ∷ text) = cond (is_backslash byte) (escaped_symbols text) (with_symbol (Plain byte) (symbols_of text))

  -- the symbols of a text after a backslash
  pub escaped_symbols : List ℕ → Option (List Symbol)
  escaped_symbols [] = None
  escaped_symbols (letter ∷ text) = cond (letter == ascii "x") (coded_symbols text) (with_escaped (escape_of letter) (symbols_of text))

  -- the symbols of a text after `\x`: two hex digits of either case are a byte
  pub coded_symbols : List ℕ → Option (List Symbol)
  coded_symbols [] = None
  coded_symbols (high ∷ []) = None
  coded_symbols (high ∷ low ∷ text) =
      cond (is_hex_digit high && is_hex_digit low) (with_symbol (Escaped (digit_value high * 16 + digit_value low)) (symbols_of text)) None

-- ---- quotes: which symbols are parts of words

-- space, tab (9) and carriage return (13)
abbrev pub is_white : ℕ → Bool
is_white byte = (byte == ascii " " || byte == 9) || byte == 13

-- `"` and `'`
abbrev pub is_quote : ℕ → Bool
is_quote byte = byte == ascii "\"" || byte == ascii "'"

-- the mark of a symbol while this quote is open, if any: part of a word, the edge of a quoted part, or the gap between words
unfoldable pub mark_of : Option ℕ → Symbol → Mark
mark_of opened (Escaped byte) = Part byte
mark_of None (Plain byte) = if is_white byte then Gap else if is_quote byte then Edge else Part byte
mark_of (Some quote) (Plain byte) = if byte == quote then Edge else Part byte

-- the quote that is open after a symbol
unfoldable pub open_after : Option ℕ → Symbol → Option ℕ
open_after opened (Escaped byte) = opened
open_after None (Plain byte) = if is_quote byte then Some byte else None
open_after (Some quote) (Plain byte) = if byte == quote then None else Some quote

abbrev pub marks_from : Option ℕ → List Symbol → List Mark
marks_from opened [] = []
marks_from opened (symbol ∷ symbols) = mark_of opened symbol ∷ marks_from (open_after opened symbol) symbols

-- the quote that is open at the end
abbrev pub open_at_end : Option ℕ → List Symbol → Option ℕ
open_at_end opened symbols = fold open_after opened symbols

-- ---- words: the stretches between gaps that are not empty; two edges alone are an empty word

abbrev pub is_gap : Mark → Bool
is_gap (Part byte) = false
is_gap Edge = false
is_gap Gap = true

abbrev pub with_byte_of : Mark → List ℕ → List ℕ
with_byte_of (Part byte) bytes = byte ∷ bytes
with_byte_of Edge bytes = bytes
with_byte_of Gap bytes = bytes

-- the bytes of a word
abbrev pub bytes_of : List Mark → List ℕ
bytes_of [] = []
bytes_of (mark ∷ marks) = with_byte_of mark (bytes_of marks)

abbrev pub is_word : List Mark → Bool
is_word [] = false
is_word (mark ∷ marks) = true

abbrev pub words_between : List (List Mark) → List (List ℕ)
words_between pieces = map bytes_of (filter is_word pieces)

unfoldable pub words_in : List Mark → List (List ℕ)
words_in marks = words_between (slice_split is_gap marks)

unfoldable pub text_only : List (List ℕ) → Result (List (List ℕ)) WordsError
text_only words = if list_all is_utf8 words then Ok words else Err NotText

unfoldable pub closed_only : List Symbol → Result (List (List ℕ)) WordsError
closed_only symbols = if is_some (open_at_end None symbols) then Err Quote else text_only (words_in (marks_from None symbols))

abbrev pub words_by : Option (List Symbol) → Result (List (List ℕ)) WordsError
words_by None = Err Escape
words_by (Some symbols) = closed_only symbols

-- the words of a text, or its first fault
unfoldable pub words_of : List ℕ → Result (List (List ℕ)) WordsError
words_of text = words_by (symbols_of text)
