-- Escaped names and their plain texts (systemd.unit(5), String Escaping for Inclusion in Unit Names).
use Rattle.std.specs.Prelude.{◌≡◌, ℕ, ◌+◌, ◌*◌, ◌==◌, ◌&&◌, not, Bool, true, false, cond, Option, Some, None, List, [], ◌∷◌, map, flat_map}
use Rattle.std.specs.Option.{option_map}
use Rattle.std.specs.Char.{is_ascii_hexdigit, digit_value}

-- `-`
abbrev pub dash : ℕ
dash = 45

-- `/`
abbrev pub slash : ℕ
slash = 47

-- `\`
abbrev pub backslash : ℕ
backslash = 92

-- `x`
abbrev pub letter_x : ℕ
letter_x = 120

-- a piece of an escaped text: a dash, `\x` with two hexadecimal digits, or another byte
pub data Part : Type 0 where
  dashed : Part
  coded : (high low : ℕ) → Part
  other : (byte : ℕ) → Part

-- how a piece is written
abbrev pub part_text : Part → List ℕ
part_text dashed = dash ∷ []
part_text (coded high low) = backslash ∷ letter_x ∷ high ∷ low ∷ []
part_text (other byte) = byte ∷ []

-- a dash means a slash, `\xNN` means the byte of that number, and another byte means itself
abbrev pub part_byte : Part → ℕ
part_byte dashed = slash
part_byte (coded high low) = 16 * digit_value high + digit_value low
part_byte (other byte) = byte

-- whether a text begins with this byte
abbrev pub begins_with : ℕ → List ℕ → Bool
begins_with byte [] = false
begins_with byte (first ∷ text) = first == byte

-- whether a byte before a text means itself: it is no dash, and no backslash before an `x`
abbrev pub is_other : ℕ → List ℕ → Bool
is_other byte text = not (byte == dash) && not (byte == backslash && begins_with letter_x text)

-- whether each piece is well formed before the pieces that follow it
abbrev pub are_parts : List Part → Bool
are_parts [] = true
are_parts (dashed ∷ parts) = are_parts parts
are_parts (coded high low ∷ parts) = (is_ascii_hexdigit high && is_ascii_hexdigit low) && are_parts parts
are_parts (other byte ∷ parts) = is_other byte (flat_map part_text parts) && are_parts parts

-- the text consists of such pieces, and the plain text has their bytes
pub record Unescapes (text plain : List ℕ) : Type 0 where
  pub parts : List Part
  pub well_formed : are_parts parts ≡ true
  pub spelled : text ≡ flat_map part_text parts
  pub meant : plain ≡ map part_byte parts

-- puts a byte in front of a text, if there are both
abbrev pub onto : Option ℕ → Option (List ℕ) → Option (List ℕ)
onto None plain = None
onto (Some byte) plain = option_map (λ bytes. byte ∷ bytes) plain

-- the byte of two hexadecimal digits
abbrev pub hex_byte : ℕ → ℕ → Option ℕ
hex_byte high low = cond (is_ascii_hexdigit high && is_ascii_hexdigit low) (Some (16 * digit_value high + digit_value low)) None

-- a byte that begins no `\x` means a slash if it is a dash, and itself otherwise
abbrev pub plain_byte : ℕ → ℕ
plain_byte byte = cond (byte == dash) slash byte

-- whether two bytes are `\x`
abbrev pub is_escape : ℕ → ℕ → Bool
is_escape first second = first == backslash && second == letter_x

-- the plain text of an escaped text, or nothing where an `\x` lacks its digits
abbrev pub unescaped : List ℕ → Option (List ℕ)
unescaped [] = Some []
unescaped (a ∷ []) = Some (plain_byte a ∷ [])
unescaped (a ∷ b ∷ []) = cond (is_escape a b) None (onto (Some (plain_byte a)) (unescaped (b ∷ [])))
unescaped (a ∷ b ∷ c ∷ []) = cond (is_escape a b) None (onto (Some (plain_byte a)) (unescaped (b ∷ c ∷ [])))
unescaped (a ∷ b ∷ c ∷ d ∷ text) = cond (is_escape a b) (onto (hex_byte c d) (unescaped text))
    (onto (Some (plain_byte a)) (unescaped (b ∷ c ∷ d ∷ text)))
