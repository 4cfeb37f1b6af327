-- A system call can return every error number that a text gives.
use Rattle.std.proofs.Common.{◌≡◌, ◌≤◌, ℕ, Bool, true, false, cond, Option, Some, None, List, [], ◌∷◌, refl, sym, ap, ◌∙◌, subst, arith}
use Rattle.std.specs.Prelude.{nat_le, option_and_then, IfSome}
use Rattle.std.specs.List.{list_all}
use Rattle.std.specs.Str.{bytes_eq}
use Rattle.std.proofs.lemmas.Bool.{and_parts}
use Rattle.std.proofs.lemmas.Bool.Decides.{nat_tests}
use Rattle.linux_numbers.specs.Errnos.{errnos}
use Rattle.linux_numbers.specs.Limits.{max_errno}
use Rattle.text_forms.specs.Errnos.{number_beside, small_only, named_or_decimal, errno_value}
use Rattle.text_forms.specs.Numbers.{decimal_value}

abbrev IsSmall : Option ℕ → Type 0
IsSmall number = IfSome number (λ n. n ≤ 4095)

small_bounded : (n : ℕ) → IsSmall (small_only n)
small_bounded n = by (nat_le n 4095) refl
  where
    by : (b : Bool) → nat_le n 4095 ≡ b → IsSmall (cond b (Some n) None)
    by true e = grind (arith, nat_tests)
    by false e = tt

decimal_bounded : (number : Option ℕ) → IsSmall (option_and_then small_only number)
decimal_bounded None = tt
decimal_bounded (Some n) = small_bounded n

beside_bounded : (rows : List (List ℕ × ℕ)) (name : List ℕ) → list_all (λ row. nat_le row.1 4095) rows ≡ true
    → IsSmall (number_beside rows name)
unfolding number_beside
beside_bounded [] name h = tt
beside_bounded (row ∷ rows) name h = by (bytes_eq row.0 name) (beside_bounded rows name (and_parts _ _ h).1)
  where
    by : (b : Bool) → IsSmall (number_beside rows name) → IsSmall (cond b (Some row.1) (number_beside rows name))
    by true g = let small : nat_le row.1 4095 ≡ true = (and_parts _ _ h).0 in grind (arith, nat_tests)
    by false g = g

named_bounded : (number : Option ℕ) (text : List ℕ) → IsSmall number → IsSmall (named_or_decimal number text)
named_bounded None text h = decimal_bounded (decimal_value text)
named_bounded (Some n) text h = h

pub errno_bounded : (text : List ℕ) → IfSome (errno_value text) (λ number. number ≤ max_errno)
unfolding errno_value
errno_bounded text = named_bounded (number_beside errnos text) text (beside_bounded errnos text refl)

pub beside_small : (rows : List (List ℕ × ℕ)) (name : List ℕ) (n : ℕ) → rows ≡ errnos → Some n ≡ number_beside rows name → n ≤ max_errno
beside_small rows name n same e = subst IsSmall (sym (e ∙ ap (λ l. number_beside l name) same)) (beside_bounded errnos name refl)
