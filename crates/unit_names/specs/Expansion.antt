-- A value with its specifiers expanded (systemd.unit(5), Specifiers).
use Rattle.std.specs.Prelude.{◌≡◌, ◌≤◌, ℕ, ◌==◌, ◌&&◌, nat_le, not, Bool, true, false, cond, is_some, Option, Some, None, List, [], ◌∷◌}
use Rattle.std.specs.Prelude.{length, flat_map}
use Rattle.std.specs.Option.{option_map, option_and_then}
use Rattle.std.specs.Str.{is_utf8}
use Rattle.std.specs.Fmt.{option_append}
use Rattle.unit_names.specs.Names.{Name}
use Rattle.unit_names.specs.Specifiers.{percent, spelling, meaning, letter_of, specifier_at, is_kept}
use Rattle.unit_names.specs.Versions.{is_known}
use Rattle.unit_names.specs.declared.specifier.Specifier.{Specifier}
use Rattle.unit_names.specs.declared.version.Version.{Version}

-- the most bytes of an expanded value: systemd's limit of a line, 1 MiB (LONG_LINE_MAX)
abbrev pub longest_value : ℕ
longest_value = 1048576

-- a piece of a value: a specifier, a byte other than `%`, a `%` with a character that makes no specifier, or a `%` at the end
pub data Piece : Type 0 where
  specified : (specifier : Specifier) → Piece
  literal : (byte : ℕ) → Piece
  kept : (letter : ℕ) → Piece
  last_percent : Piece

-- a `%` at the end stays if the version of systemd is known
abbrev pub is_last : Option Version → List Piece → Bool
is_last systemd [] = is_known systemd
is_last systemd (piece ∷ pieces) = false

-- whether a piece may precede these: a specifier that the unit has, or a byte other than `%`;
-- a `%` that makes no specifier is a piece only if the version of systemd is known
abbrev pub is_piece : Option Version → Piece → List Piece → Bool
is_piece systemd (specified specifier) pieces = is_some (specifier_at systemd (letter_of specifier))
is_piece systemd (literal byte) pieces = not (byte == percent)
is_piece systemd (kept letter) pieces = is_kept systemd letter
is_piece systemd last_percent pieces = is_last systemd pieces

abbrev pub are_pieces : Option Version → List Piece → Bool
are_pieces systemd [] = true
are_pieces systemd (piece ∷ pieces) = is_piece systemd piece pieces && are_pieces systemd pieces

-- how a piece is written
abbrev pub piece_text : Piece → List ℕ
piece_text (specified specifier) = spelling specifier
piece_text (literal byte) = byte ∷ []
piece_text (kept letter) = percent ∷ letter ∷ []
piece_text last_percent = percent ∷ []

-- the text of a piece; a piece that is no specifier is its own text
abbrev pub piece_meaning : Name → Piece → Option (List ℕ)
piece_meaning name (specified specifier) = meaning name specifier
piece_meaning name (literal byte) = Some (byte ∷ [])
piece_meaning name (kept letter) = Some (percent ∷ letter ∷ [])
piece_meaning name last_percent = Some (percent ∷ [])

-- the texts of the pieces, one after the other, or nothing if one of them has no text
abbrev pub pieces_meaning : Name → List Piece → Option (List ℕ)
pieces_meaning name [] = Some []
pieces_meaning name (piece ∷ pieces) = option_append (piece_meaning name piece) (pieces_meaning name pieces)

-- the value consists of pieces, each has a text, and together they give this text, which is UTF-8 and not too long
pub record Expands (systemd : Option Version) (name : Name) (value text : List ℕ) : Type 0 where
  pub pieces : List Piece
  pub well_formed : are_pieces systemd pieces ≡ true
  pub spelled : value ≡ flat_map piece_text pieces
  pub meant : pieces_meaning name pieces ≡ Some text
  pub is_text : is_utf8 text ≡ true
  pub short : length text ≤ longest_value

-- puts a piece in front of the others, if there are all of them
abbrev pub onto_pieces : Option Piece → Option (List Piece) → Option (List Piece)
onto_pieces None pieces = None
onto_pieces (Some piece) pieces = option_map (λ others. piece ∷ others) pieces

-- the piece of a `%` and the character after it, given the specifier of that character, if it has one
abbrev pub letter_piece : Option Version → ℕ → Option Specifier → Option Piece
letter_piece systemd letter (Some specifier) = Some (specified specifier)
letter_piece systemd letter None = cond (is_kept systemd letter) (Some (kept letter)) None

-- the piece of a `%` and the character after it
abbrev pub percent_piece : Option Version → ℕ → Option Piece
percent_piece systemd letter = letter_piece systemd letter (specifier_at systemd letter)

-- the text of a `%` and the character after it
abbrev pub letter_meaning : Option Version → Name → ℕ → Option (List ℕ)
letter_meaning systemd name letter = option_and_then (piece_meaning name) (percent_piece systemd letter)

-- the text of a `%` at the end
abbrev pub last_meaning : Option Version → Option (List ℕ)
last_meaning systemd = cond (is_known systemd) (Some (percent ∷ [])) None

-- the pieces of the last byte of a value
abbrev pub last_pieces : Option Version → ℕ → Option (List Piece)
last_pieces systemd byte = cond (byte == percent) (cond (is_known systemd) (Some (last_percent ∷ [])) None) (Some (literal byte ∷ []))

-- the pieces of a value, or nothing where a `%` makes no piece
abbrev pub pieces_of : Option Version → List ℕ → Option (List Piece)
pieces_of systemd [] = Some []
pieces_of systemd (byte ∷ []) = last_pieces systemd byte
pieces_of systemd (byte ∷ next ∷ value) = cond (byte == percent) (onto_pieces (percent_piece systemd next) (pieces_of systemd value))
    (onto_pieces (Some (literal byte)) (pieces_of systemd (next ∷ value)))

-- the bytes, if they are not too many
abbrev pub if_short : List ℕ → Option (List ℕ)
if_short bytes = cond (nat_le (length bytes) longest_value) (Some bytes) None

-- the bytes, if they are UTF-8
abbrev pub if_text : List ℕ → Option (List ℕ)
if_text bytes = cond (is_utf8 bytes) (Some bytes) None

-- the bytes of an expanded value, however many they are
abbrev pub expanded_bytes : Option Version → Name → List ℕ → Option (List ℕ)
expanded_bytes systemd name value = option_and_then (pieces_meaning name) (pieces_of systemd value)

-- the bytes of an expanded value, if they are not too many
abbrev pub short_bytes : Option Version → Name → List ℕ → Option (List ℕ)
short_bytes systemd name value = option_and_then if_short (expanded_bytes systemd name value)

-- the expanded value, or nothing if it cannot be expanded
abbrev pub expansion : Option Version → Name → List ℕ → Option (List ℕ)
expansion systemd name value = option_and_then if_text (short_bytes systemd name value)
