-- Numbers that are printed, read again.
use Rattle.std.proofs.Common.{◌≡◌, ℕ, ◌<◌, ◌≤◌, ◌^◌, Bool, true, false, cond, List, [], ◌∷◌, length, map, Some, None, refl, ap, ◌∙◌, arith}
use Rattle.std.proofs.Common.{decimal}
use Rattle.std.specs.Prelude.{◌==◌, nat_lt, nat_le, option_and_then}
use Rattle.std.specs.Char.{digit_value}
use Rattle.std.specs.List.{AllByRecursion}
use Rattle.std.specs.Str.Parse.{AllDigits}
use Rattle.std.proofs.lemmas.Bool.{eqb-true, and_from}
use Rattle.std.proofs.lemmas.Bool.Decides.{nat_tests}
use Rattle.std.proofs.lemmas.Fmt.{decimal_is_IsNumeral}
use Rattle.kernel_model.specs.text_forms.Numbers.{decimal_value}
use Rattle.kernel_model.proofs.OfTextForms.Numerals.{numeral_is, decimal_read}
use Rattle.kernel_model.specs.call_table.Numbers.{word_only, number_of}
use Rattle.script_text.specs.Numbers.{some_pid, pid_of, with_front, numbers_of, six_words, without_last_zeros}
use Rattle.script_text.specs.Payloads.{below_capabilities, set_of}
use Rattle.script_text.specs.Printed.{argument_words}
use Rattle.script_text.specs.PrintedAgain.{IsWord}
use Rattle.script_text.proofs.Spaced.{HasNo}
use Rattle.script_text.proofs.Zeros.{same_word, no_longer, zeros_of}

-- the bytes of a number are digits, so none is any other mark
no_mark : (mark : ℕ) (digits : List ℕ) → 10 ≤ digit_value mark → AllDigits 10 digits → HasNo mark digits
no_mark mark [] m h = tt
no_mark mark (digit ∷ digits) m h = (by (digit == mark) refl, no_mark mark digits m h.1)
  where
    by : (b : Bool) → (digit == mark) ≡ b → b ≡ false
    by false e = refl
    by true e = let same : digit_value digit ≡ digit_value mark = ap digit_value (eqb-true digit mark e) in absurd (omega (arith, same, m, h.0))

pub number_has_no : (mark number : ℕ) → 10 ≤ digit_value mark → number < 2 ^ 64 → HasNo mark (decimal number)
number_has_no mark number m h = no_mark mark (decimal number) m (decimal_is_IsNumeral number h).0.1

pub number_shown : (number : ℕ) → number < 2 ^ 64 → IsWord (decimal number)
number_shown number h = record {
  some = let long : 0 < length (decimal number) = (decimal_is_IsNumeral number h).0.0 in grind (arith, nat_tests, long);
  plain = number_has_no 32 number (omega arith) h;
}

pub decimal_again : (number : ℕ) → number < 2 ^ 64 → decimal_value (decimal number) ≡ Some number
unfolding decimal_value
decimal_again number h =
    let shown = decimal_is_IsNumeral number h in
    let value = shown.1 in
    numeral_is 10 (decimal number) shown.0 (omega (arith, value, h)) ∙ ap Some value

pub pid_again : (pid : ℕ) → 1 ≤ pid → pid < 2 ^ 32 → pid_of (decimal pid) ≡ Some pid
unfolding pid_of
pid_again pid some small =
    ap (λ o. option_and_then some_pid o) (decimal_again pid (omega (arith, small)))
    ∙ ap (λ b. cond b (Some pid) None)
    (and_from (nat_lt 0 pid) (nat_lt pid (2 ^ 32)) (grind (arith, nat_tests, some)) (grind (arith, nat_tests, small)))

pub number_again : (number : ℕ) → number < 2 ^ 32 → number_of (decimal number) ≡ Some number
unfolding number_of
number_again number small =
    let below : nat_lt number (2 ^ 32) ≡ true = grind (arith, nat_tests, small) in
    ap (λ o. option_and_then word_only o) (decimal_again number (omega (arith, small))) ∙ ap (λ b. cond b (Some number) None) below

pub set_again : (set : ℕ) → set < 2 ^ 41 → set_of (decimal set) ≡ Some set
unfolding set_of
set_again set small =
    let below : nat_lt set (2 ^ 41) ≡ true = grind (arith, nat_tests, small) in
    ap (λ o. option_and_then below_capabilities o) (decimal_read set (omega (arith, small))) ∙ ap (λ b. cond b (Some set) None) below

numbers_again : (numbers : List ℕ) → AllByRecursion (λ number. number < 2 ^ 64) numbers → numbers_of (map decimal numbers) ≡ Some numbers
numbers_again [] h = refl
numbers_again (number ∷ numbers) h =
    ap (λ o. option_and_then (λ first. with_front first (numbers_of (map decimal numbers))) o) (decimal_read number h.0)
    ∙ ap (with_front number) (numbers_again numbers h.1)

pub arguments_again : (args : List ℕ) → AllByRecursion (λ arg. arg < 2 ^ 64) args
    → numbers_of (argument_words args) ≡ Some (without_last_zeros args)
arguments_again args h = numbers_again (without_last_zeros args) (zeros_of (λ arg. arg < 2 ^ 64) args h)

pub arguments_shown : (args : List ℕ) → AllByRecursion (λ arg. arg < 2 ^ 64) args → AllByRecursion IsWord (argument_words args)
arguments_shown args h = each (without_last_zeros args) (zeros_of (λ arg. arg < 2 ^ 64) args h)
  where
    each : (numbers : List ℕ) → AllByRecursion (λ number. number < 2 ^ 64) numbers → AllByRecursion IsWord (map decimal numbers)
    each [] h = tt
    each (number ∷ numbers) h = (number_shown number h.0, each numbers h.1)

six_of : (args : List ℕ) → length args ≡ 6 → six_words args ≡ args
six_of (a ∷ b ∷ c ∷ d ∷ e ∷ f ∷ []) h = refl
six_of [] h = absurd (omega (arith, h))
six_of (a ∷ []) h = absurd (omega (arith, h))
six_of (a ∷ b ∷ []) h = absurd (omega (arith, h))
six_of (a ∷ b ∷ c ∷ []) h = absurd (omega (arith, h))
six_of (a ∷ b ∷ c ∷ d ∷ []) h = absurd (omega (arith, h))
six_of (a ∷ b ∷ c ∷ d ∷ e ∷ []) h = absurd (omega (arith, h))
six_of (a ∷ b ∷ c ∷ d ∷ e ∷ f ∷ g ∷ args) h = absurd (omega (arith, h))

pub six_again : (args : List ℕ) → length args ≡ 6 → six_words (without_last_zeros args) ≡ args
six_again args h =
    ap6 (same_word args 0) (same_word args 1) (same_word args 2) (same_word args 3) (same_word args 4) (same_word args 5) ∙ six_of args h
  where
    ap6 : {a b c d e f a' b' c' d' e' f' : ℕ} → a ≡ a' → b ≡ b' → c ≡ c' → d ≡ d' → e ≡ e' → f ≡ f'
        → ◌≡◌ {A = List ℕ} (a ∷ b ∷ c ∷ d ∷ e ∷ f ∷ []) (a' ∷ b' ∷ c' ∷ d' ∷ e' ∷ f' ∷ [])
    ap6 p q r s t u = cc

pub six_at_most : (args : List ℕ) → length args ≡ 6 → nat_le (length (without_last_zeros args)) 6 ≡ true
six_at_most args h = let short : length (without_last_zeros args) ≤ length args = no_longer args in grind (arith, nat_tests, short, h)
