-- Escaped words: a path, a name or an identifier printed as one word without white space.
use Rattle.std.specs.Prelude.{ℕ, Bool, ◌==◌, ◌&&◌, ◌||◌, ◌+◌, ◌-◌, ◌*◌, ◌/◌, ◌%◌, nat_le, nat_lt, if◌then◌else◌, cond, List, [], ◌∷◌}
use Rattle.std.specs.Prelude.{Option, Some, None}
use Rattle.std.specs.List.{flat_map}
use Rattle.std.specs.Char.{is_digit, digit_value}
use Rattle.std.specs.Str.{byte as ascii}

-- bytes up to the space, the byte DEL and `%` are written by their numbers
abbrev pub is_coded : ℕ → Bool
is_coded byte = (nat_le byte (ascii " ") || byte == 0x7f) || byte == ascii "%"

-- the upper-case hex digit of a number below 16
abbrev pub upper_digit : ℕ → ℕ
upper_digit digit = if nat_lt digit 10 then ascii "0" + digit else ascii "A" - 10 + digit

unfoldable pub escaped_byte : ℕ → List ℕ
escaped_byte byte = if is_coded byte then ascii "%" ∷ upper_digit (byte / 16) ∷ upper_digit (byte % 16) ∷ [] else byte ∷ []

abbrev pub escaped_word : List ℕ → List ℕ
escaped_word text = flat_map escaped_byte text

abbrev pub with_byte : ℕ → Option (List ℕ) → Option (List ℕ)
with_byte byte None = None
with_byte byte (Some bytes) = Some (byte ∷ bytes)

unfoldable mutual
  -- an escaped word is read back; None where `%` precedes anything other than two hex digits of either case
  pub word_read : List ℕ → Option (List ℕ)
  word_read [] = Some []
  word_read (byte ∷ word) = cond (byte == ascii "%") (code_read word) (with_byte byte (word_read word))

  -- the rest of an escaped word after a `%`
  pub code_read : List ℕ → Option (List ℕ)
  code_read [] = None
  code_read (high ∷ []) = None
  code_read (high ∷ low ∷ word) =
      cond (is_digit high 16 && is_digit low 16) (with_byte (digit_value high * 16 + digit_value low) (word_read word)) None
