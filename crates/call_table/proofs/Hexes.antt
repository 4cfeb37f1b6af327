-- Eight hex digits in lower case are a number below 2^32.
use Rattle.std.proofs.Common.{◌≡◌, ◌≢◌, ℕ, ◌<◌, ◌^◌, true, List, [], ◌∷◌, length, get_or, Some, Result, Ok, Err, ap, subst, arith}
use Rattle.std.specs.Result.{OkIff, result_ok}
use Rattle.std.specs.Char.{digit_value}
use Rattle.std.specs.List.{list_all}
use Rattle.std.specs.Str.Parse.{AllDigits, IsNumeral, ParsesUnsigned, digits_value}
use Rattle.std.proofs.lemmas.Str.Parse.{without_leading_plus_none}
use Rattle.std.proofs.lemmas.Int.Digits.{digits_value-lt}
use Rattle.std.proofs.lemmas.Bool.{and_parts}
use Rattle.std.proofs.lemmas.Bool.Decides.{nat_tests}
use Rattle.call_table.specs.Numbers.{is_lower_hex}

hex_digit : (byte : ℕ) → is_lower_hex byte ≡ true → (digit_value byte < 16) × (byte ≢ 43)
hex_digit byte h = (grind (arith, nat_tests), λ e. grind (arith, nat_tests))

hex_digits : (digits : List ℕ) → list_all is_lower_hex digits ≡ true → AllDigits 16 digits
hex_digits [] h = tt
hex_digits (byte ∷ digits) h =
    let both = and_parts (is_lower_hex byte) (list_all is_lower_hex digits) h in
    ((hex_digit byte both.0).0, hex_digits digits both.1)

no_plus : (digits : List ℕ) → list_all is_lower_hex digits ≡ true → get_or digits 0 0 ≢ 43
no_plus [] h e = omega (arith, e)
no_plus (byte ∷ digits) h e = (hex_digit byte (and_parts (is_lower_hex byte) (list_all is_lower_hex digits) h).0).1 e

pub arch_read : {E : Type 0} (digits : List ℕ) (r : Result ℕ E) → ParsesUnsigned 32 16 digits r → length digits ≡ 8
    → list_all is_lower_hex digits ≡ true → result_ok r ≡ Some (digits_value 16 digits)
arch_read {E} digits r h eight lower =
    by r (subst (λ (l : List ℕ). OkIff r (IsNumeral 16 l × (digits_value 16 l < 2 ^ 32)) (digits_value 16 l))
    (without_leading_plus_none digits (no_plus digits lower)) h)
  where
    fits : digits_value 16 digits < 2 ^ 32
    fits = let P : ℕ → Type 0 = λ n. digits_value 16 digits < 16 ^ n in subst P eight (digits_value-lt 16 digits (hex_digits digits lower))

    by : (r : Result ℕ E) → OkIff r (IsNumeral 16 digits × (digits_value 16 digits < 2 ^ 32)) (digits_value 16 digits)
        → result_ok r ≡ Some (digits_value 16 digits)
    by (Ok n) k = ap Some k.1
    by (Err e) k = absurd (k ((omega arith, hex_digits digits lower), fits))
