-- Lines of calls.txt have numbers and names of capabilities.
use Rattle.std.specs.Prelude.{ℕ, ◌==◌, ◌&&◌, ◌||◌, ◌^◌, nat_lt, nat_le, if◌then◌else◌, Bool, List, length, Option, Some, None}
use Rattle.std.specs.Prelude.{option_and_then}
use Rattle.std.specs.List.{list_all, position}
use Rattle.std.specs.Char.{is_ascii_digit}
use Rattle.std.specs.Str.{bytes_eq}
use Rattle.std.specs.Str.Parse.{digits_value}
use Rattle.text_forms.specs.Numbers.{decimal_value}
use Rattle.cap_sets.specs.Names.{names}

-- `0` to `9` and `a` to `f`
abbrev pub is_lower_hex : ℕ → Bool
is_lower_hex byte = is_ascii_digit byte || (nat_le 97 byte && nat_le byte 102)

-- ARCH: eight hex digits in lower case
unfoldable pub arch_of : List ℕ → Option ℕ
arch_of digits = if length digits == 8 && list_all is_lower_hex digits then Some (digits_value 16 digits) else None

abbrev pub word_only : ℕ → Option ℕ
word_only number = if nat_lt number (2 ^ 32) then Some number else None

-- NUMBER: decimal, below 2^32; leading zeros change nothing
unfoldable pub number_of : List ℕ → Option ℕ
number_of digits = option_and_then word_only (decimal_value digits)

-- CAP: exactly the name of a capability (capabilities(7))
unfoldable pub cap_of : List ℕ → Option ℕ
cap_of word = position (λ name. bytes_eq name word) names
