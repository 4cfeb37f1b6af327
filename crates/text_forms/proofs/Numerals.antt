-- A numeral passes its test and has its number.
use Rattle.std.proofs.Common.{◌≡◌, ◌≢◌, ℕ, ◌<◌, ◌≤◌, ◌^◌, Bool, true, false, cond, List, [], ◌∷◌, length, get_or, drop, Some, None, Result}
use Rattle.std.proofs.Common.{Ok, Err, refl, sym, ap, ◌∙◌, subst, arith, decimal}
use Rattle.std.specs.Prelude.{◌&&◌, ◌==◌, not, nat_eq, nat_lt, codes}
use lib.Dec.{eqb}
use Rattle.std.specs.Result.{OkIff, result_ok}
use Rattle.std.specs.Char.{is_digit, digit_value}
use Rattle.std.specs.List.{list_all, starts_with}
use Rattle.std.specs.Str.Parse.{AllDigits, IsNumeral, ParsesUnsigned, digits_value}
use Rattle.std.proofs.lemmas.Str.Parse.{without_leading_plus_none}
use Rattle.std.proofs.lemmas.Fmt.{decimal_is_IsNumeral, first_decimal}
use Rattle.std.proofs.lemmas.Bool.{and_parts, and_from, false≢true, eqb-true}
use Rattle.std.proofs.lemmas.Bool.Decides.{nat_tests}
use Rattle.text_forms.specs.Numbers.{is_numeral, numeral_value, hex_digits, number_by, number_value}

digits_pass : (radix : ℕ) (ds : List ℕ) → AllDigits radix ds → list_all (λ digit. is_digit digit radix) ds ≡ true
digits_pass radix [] h = refl
digits_pass radix (d ∷ ds) h = and_from _ _ (grind (arith, nat_tests, h.0)) (digits_pass radix ds h.1)

pass_digits : (radix : ℕ) (ds : List ℕ) → list_all (λ digit. is_digit digit radix) ds ≡ true → AllDigits radix ds
pass_digits radix [] h = tt
pass_digits radix (d ∷ ds) h =
    let both = and_parts (is_digit d radix) (list_all (λ digit. is_digit digit radix) ds) h in
    let first : is_digit d radix ≡ true = both.0 in
    (grind (arith, nat_tests), pass_digits radix ds both.1)

numeral_passes : (radix : ℕ) (ds : List ℕ) → IsNumeral radix ds → is_numeral radix ds ≡ true
numeral_passes radix ds h = and_from _ _ (let long : 0 < length ds = h.0 in grind (arith, nat_tests)) (digits_pass radix ds h.1)

passes_numeral : (radix : ℕ) (ds : List ℕ) → is_numeral radix ds ≡ true → IsNumeral radix ds
passes_numeral radix ds h =
    let both = and_parts (not (length ds == 0)) (list_all (λ digit. is_digit digit radix) ds) h in
    let long : not (length ds == 0) ≡ true = both.0 in
    (grind (arith, nat_tests), pass_digits radix ds both.1)

-- a numeral that fits has its value
pub numeral_is : (radix : ℕ) (ds : List ℕ) → IsNumeral radix ds → digits_value radix ds < 2 ^ 64
    → numeral_value radix ds ≡ Some (digits_value radix ds)
unfolding numeral_value
numeral_is radix ds h small =
    let fits : nat_lt (digits_value radix ds) (2 ^ 64) ≡ true = grind (arith, nat_tests) in
    ap (λ b. cond b (Some (digits_value radix ds)) None) (and_from _ _ (numeral_passes radix ds h) fits)

pub no_numeral : (radix : ℕ) (ds : List ℕ) → (IsNumeral radix ds × (digits_value radix ds < 2 ^ 64) → ⊥) → numeral_value radix ds ≡ None
unfolding numeral_value
no_numeral radix ds h = by (is_numeral radix ds && nat_lt (digits_value radix ds) (2 ^ 64)) refl
  where
    by : (b : Bool) → (is_numeral radix ds && nat_lt (digits_value radix ds) (2 ^ 64)) ≡ b
        → cond b (Some (digits_value radix ds)) None ≡ None
    by false e = refl
    by true e =
        let both = and_parts (is_numeral radix ds) (nat_lt (digits_value radix ds) (2 ^ 64)) e in
        let fits : nat_lt (digits_value radix ds) (2 ^ 64) ≡ true = both.1 in
        absurd (h (passes_numeral radix ds both.0, grind (arith, nat_tests)))

not_plus : (ds : List ℕ) → starts_with nat_eq ds (codes "+") ≡ false → get_or ds 0 0 ≢ 43
not_plus [] h e = omega (arith, e)
not_plus (c ∷ ds) h e = grind (arith, nat_tests, e, h)

pub parsed : {E : Type 0} (radix : ℕ) (ds : List ℕ) (r : Result ℕ E) → ParsesUnsigned 64 radix ds r
    → starts_with nat_eq ds (codes "+") ≡ false → result_ok r ≡ numeral_value radix ds
parsed {E} radix ds r h plain =
    by r (subst (λ (l : List ℕ). OkIff r (IsNumeral radix l × (digits_value radix l < 2 ^ 64)) (digits_value radix l))
    (without_leading_plus_none ds (not_plus ds plain)) h)
  where
    by : (r : Result ℕ E) → OkIff r (IsNumeral radix ds × (digits_value radix ds < 2 ^ 64)) (digits_value radix ds)
        → result_ok r ≡ numeral_value radix ds
    by (Ok n) k = ap Some k.1 ∙ sym (numeral_is radix ds k.0.0 k.0.1)
    by (Err e) k = sym (no_numeral radix ds k)

-- a sign is no digit
pub signed : (radix : ℕ) (ds : List ℕ) → radix ≤ 36 → starts_with nat_eq ds (codes "+") ≡ true → None ≡ numeral_value radix ds
signed radix [] high h = absurd (false≢true h)
signed radix (c ∷ ds) high h =
    let same : 43 ≡ c = eqb-true 43 c (and_parts _ _ h).0 in
    sym (no_numeral radix (c ∷ ds) (λ k. let low : digit_value c < radix = k.0.1.0 in let sign : digit_value c ≡ 36 = ap digit_value (sym same) in omega arith))

no_hex : (ds : List ℕ) → AllDigits 10 ds → hex_digits ds ≡ None
no_hex [] h = refl
no_hex (c ∷ []) h = by (eqb 48 c)
  where
    by : (b : Bool) → cond (b && false) (Some (drop 2 (c ∷ []))) None ≡ None
    by true = refl
    by false = refl
no_hex (c ∷ d ∷ ds) h = by (nat_eq 120 d) refl (nat_eq 48 c)
  where
    by : (b : Bool) → nat_eq 120 d ≡ b → (e : Bool) → cond (e && (b && true)) (Some (drop 2 (c ∷ d ∷ ds))) None ≡ None
    by true same e = absurd (let letter : digit_value d ≡ 33 = ap digit_value (sym (eqb-true 120 d same)) in let low : digit_value d < 10 = h.1.0 in omega arith)
    by false same true = refl
    by false same false = refl

pub decimal_read : (n : ℕ) → n < 2 ^ 64 → number_value (decimal n) ≡ Some n
unfolding number_value
decimal_read n h =
    let shown = decimal_is_IsNumeral n h in
    let value = shown.1 in
    ap (λ digits. number_by digits (decimal n)) (no_hex (decimal n) shown.0.1) ∙ numeral_is 10 (decimal n) shown.0 (omega (arith, value))
    ∙ ap Some value

pub no_leading_zero : (n : ℕ) → 0 < n → n < 2 ^ 64 → get_or (decimal n) 0 0 ≢ 48
no_leading_zero n some small e = omega (arith, first_decimal n some small, e)
