-- Numbers as texts: decimal, or hexadecimal after `0x`.
use Rattle.std.specs.Prelude.{ℕ, Bool, ◌==◌, ◌&&◌, ◌^◌, not, nat_eq, nat_lt, if◌then◌else◌, List, length, drop, codes, Option, Some, None}
use Rattle.std.specs.List.{list_all, starts_with}
use Rattle.std.specs.Char.{is_digit}
use Rattle.std.specs.Str.Parse.{digits_value}

-- one or more digits of the radix and nothing else; leading zeros are allowed, and letters of either case
abbrev pub is_numeral : ℕ → List ℕ → Bool
is_numeral radix digits = not (length digits == 0) && list_all (λ digit. is_digit digit radix) digits

-- the number of a numeral that fits 64 bits
unfoldable pub numeral_value : ℕ → List ℕ → Option ℕ
numeral_value radix digits =
    if is_numeral radix digits && nat_lt (digits_value radix digits) (2 ^ 64) then Some (digits_value radix digits) else None

-- decimal digits, with leading zeros or without
unfoldable pub decimal_value : List ℕ → Option ℕ
decimal_value text = numeral_value 10 text

-- the text after `0x`
abbrev pub hex_digits : List ℕ → Option (List ℕ)
hex_digits text = if starts_with nat_eq text (codes "0x") then Some (drop 2 text) else None

abbrev pub number_by : Option (List ℕ) → List ℕ → Option ℕ
number_by (Some digits) text = numeral_value 16 digits
number_by None text = numeral_value 10 text

-- hex digits after `0x`, or decimal digits
unfoldable pub number_value : List ℕ → Option ℕ
number_value text = number_by (hex_digits text) text
