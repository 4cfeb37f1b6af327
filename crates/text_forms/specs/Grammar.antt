-- systemd.syntax(7), Quoting, as a grammar: a text is written symbol by symbol, and symbols are laid out as words.
use Rattle.std.specs.Prelude.{◌≡◌, ◌≢◌, ◌⊎◌, ◌+◌, ◌*◌, ℕ, false, IsTrue, List, [], ◌∷◌, ◌++◌, Some}
use Rattle.std.specs.Char.{digit_value}
use Rattle.std.specs.Str.{byte as ascii}
use Rattle.std.specs.List.{AllByRecursion, flat_map}
use Rattle.text_forms.specs.declared.splitting.symbols.Symbol.{Symbol}
use Rattle.text_forms.specs.declared.splitting.symbols.Symbol.TheVariants.{Plain, Escaped}
use Rattle.text_forms.specs.Words.{escape_of, is_hex_digit, is_white, is_quote}

-- ---- a text is written symbol by symbol

-- a backslash and a letter mean this byte
abbrev pub IsLetterEscape : ℕ → List ℕ → Type 0
IsLetterEscape byte written = (letter : ℕ) × (written ≡ ascii "\\" ∷ letter ∷ []) × (escape_of letter ≡ Some byte)

-- `\x` and two hex digits mean this byte
abbrev pub IsHexEscape : ℕ → List ℕ → Type 0
IsHexEscape byte written = (high low : ℕ) × (written ≡ ascii "\\" ∷ ascii "x" ∷ high ∷ low ∷ []) ×
    (IsTrue (is_hex_digit high) × IsTrue (is_hex_digit low) × (byte ≡ digit_value high * 16 + digit_value low))

-- a byte other than a backslash means itself, and an escape may mean any byte
abbrev pub IsWritten : Symbol → List ℕ → Type 0
IsWritten (Plain byte) written = (written ≡ byte ∷ []) × (byte ≢ ascii "\\")
IsWritten (Escaped byte) written = IsLetterEscape byte written ⊎ IsHexEscape byte written

-- the text consists of the symbols as they are written, one after the other
abbrev pub Spells : List Symbol → List ℕ → Type 0
Spells [] text = text ≡ []
Spells (symbol ∷ symbols) text = (written rest : List ℕ) × IsWritten symbol written × (text ≡ written ++ rest) × Spells symbols rest

-- ---- words are laid out among white space

-- a part of a word: a single symbol, or symbols between two quotes
pub data Part : Type 0 where
  bare : Symbol → Part
  quoted : ℕ → List Symbol → Part

abbrev pub byte_of : Symbol → ℕ
byte_of (Plain byte) = byte
byte_of (Escaped byte) = byte

-- an escaped symbol closes no quote
abbrev pub IsNoEnd : ℕ → Symbol → Type 0
IsNoEnd quote (Plain byte) = byte ≢ quote
IsNoEnd quote (Escaped byte) = Unit {0}

-- white space and quotes are no single parts; any symbol except the plain quote may be between two quotes
abbrev pub IsPart : Part → Type 0
IsPart (bare (Plain byte)) = (is_white byte ≡ false) × (is_quote byte ≡ false)
IsPart (bare (Escaped byte)) = Unit {0}
IsPart (quoted quote inside) = IsTrue (is_quote quote) × AllByRecursion (IsNoEnd quote) inside

abbrev pub part_symbols : Part → List Symbol
part_symbols (bare symbol) = symbol ∷ []
part_symbols (quoted quote inside) = Plain quote ∷ inside ++ Plain quote ∷ []

abbrev pub bytes_in : List Symbol → List ℕ
bytes_in [] = []
bytes_in (symbol ∷ symbols) = byte_of symbol ∷ bytes_in symbols

abbrev pub part_bytes : Part → List ℕ
part_bytes (bare symbol) = byte_of symbol ∷ []
part_bytes (quoted quote inside) = bytes_in inside

-- the symbols are at their end or begin with white space
abbrev pub EndsWord : List Symbol → Type 0
EndsWord [] = Unit {0}
EndsWord (Plain byte ∷ symbols) = IsTrue (is_white byte)
EndsWord (Escaped byte ∷ symbols) = ⊥

-- the symbols are these words, with white space among them; each word has one part or more and ends at white space or at the end
pub data LaysOut : List Symbol → List (List ℕ) → Type 0 where
  nothing : LaysOut [] []
  white : (byte : ℕ) (symbols : List Symbol) (words : List (List ℕ)) → IsTrue (is_white byte) → LaysOut symbols words
      → LaysOut (Plain byte ∷ symbols) words
  word : (part : Part) (parts : List Part) (rest : List Symbol) (words : List (List ℕ)) → AllByRecursion IsPart (part ∷ parts)
      → EndsWord rest → LaysOut rest words →
      LaysOut (flat_map part_symbols (part ∷ parts) ++ rest) (flat_map part_bytes (part ∷ parts) ∷ words)
