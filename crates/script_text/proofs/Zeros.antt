-- Words but for the zeros at their end.
use Rattle.std.proofs.Common.{◌≡◌, ℕ, zero, suc, ◌≤◌, Bool, true, false, cond, List, [], ◌∷◌, ◌++◌, length, slice_index, refl, sym, ap, ◌∙◌}
use Rattle.std.proofs.Common.{arith}
use Rattle.std.specs.Prelude.{◌&&◌}
use Rattle.std.specs.List.{list_all, AllByRecursion}
use Rattle.std.proofs.lemmas.Bool.{and_parts}
use Rattle.std.proofs.lemmas.Bool.Decides.{nat_tests}
use Rattle.script_text.specs.Numbers.{is_zero, without_last_zeros}

all_but_last : (front : List ℕ) (last : ℕ) (b : Bool) → is_zero last ≡ b
    → list_all is_zero (front ++ last ∷ []) ≡ (list_all is_zero front && b)
all_but_last [] last true h = ap (λ b. b && true) h
all_but_last [] last false h = ap (λ b. b && true) h
all_but_last (number ∷ front) last b h = ap (λ v. is_zero number && v) (all_but_last front last b h) ∙ by (is_zero number)
  where
    by : (v : Bool) → (v && (list_all is_zero front && b)) ≡ ((v && list_all is_zero front) && b)
    by true = refl
    by false = refl

and_true : (b : Bool) → (b && true) ≡ b
and_true true = refl
and_true false = refl

and_false : (b : Bool) → (b && false) ≡ false
and_false true = refl
and_false false = refl

pub last_zero : (front : List ℕ) → without_last_zeros (front ++ 0 ∷ []) ≡ without_last_zeros front
last_zero [] = refl
last_zero (number ∷ front) =
    ap (λ b. cond b [] (number ∷ without_last_zeros (front ++ 0 ∷ [])))
    (ap (λ b. is_zero number && b) (all_but_last front 0 true refl ∙ and_true (list_all is_zero front)))
    ∙ ap (λ rest. cond (is_zero number && list_all is_zero front) [] (number ∷ rest)) (last_zero front)

pub last_is_written : (front : List ℕ) (last : ℕ) → (last ≡ 0 → ⊥) → without_last_zeros (front ++ last ∷ []) ≡ front ++ last ∷ []
last_is_written front last h = by front
  where
    other : is_zero last ≡ false
    other = grind (arith, nat_tests, h)

    by : (front : List ℕ) → without_last_zeros (front ++ last ∷ []) ≡ front ++ last ∷ []
    by [] = ap (λ b. cond (b && true) [] (last ∷ [])) other
    by (number ∷ front) =
        ap (λ b. cond b [] (number ∷ without_last_zeros (front ++ last ∷ [])))
        (ap (λ b. is_zero number && b) (all_but_last front last false other ∙ and_false (list_all is_zero front))
        ∙ and_false (is_zero number))
        ∙ ap (λ rest. number ∷ rest) (by front)

-- the same of a list that is cut at its last word
pub zero_left : (left front : List ℕ) (last : ℕ) (args : List ℕ) → left ≡ front ++ last ∷ [] → last ≡ 0
    → without_last_zeros left ≡ without_last_zeros args → without_last_zeros front ≡ without_last_zeros args
zero_left left front last args e z h = sym (last_zero front) ∙ ap (λ number. without_last_zeros (front ++ number ∷ [])) (sym z)
    ∙ ap without_last_zeros (sym e) ∙ h

pub last_is_left : (left front : List ℕ) (last : ℕ) (args : List ℕ) → left ≡ front ++ last ∷ [] → (last ≡ 0 → ⊥)
    → without_last_zeros left ≡ without_last_zeros args → left ≡ without_last_zeros args
last_is_left left front last args e z h = e ∙ sym (last_is_written front last z) ∙ ap without_last_zeros (sym e) ∙ h

-- a word is the same without them
all_zero : (args : List ℕ) (at : ℕ) → list_all is_zero args ≡ true → 0 ≡ slice_index args at
all_zero [] at h = refl
all_zero (number ∷ args) zero h =
    let first : is_zero number ≡ true = (and_parts (is_zero number) (list_all is_zero args) h).0 in
    grind (arith, nat_tests, first)
all_zero (number ∷ args) (suc at) h = all_zero args at (and_parts (is_zero number) (list_all is_zero args) h).1

pub same_word : (args : List ℕ) (at : ℕ) → slice_index (without_last_zeros args) at ≡ slice_index args at
same_word [] at = refl
same_word (number ∷ args) at = by (list_all is_zero (number ∷ args)) refl (same_word args) at
  where
    by : (b : Bool) → list_all is_zero (number ∷ args) ≡ b → ((at : ℕ) → slice_index (without_last_zeros args) at ≡ slice_index args at)
        → (at : ℕ) →
        slice_index (cond b [] (number ∷ without_last_zeros args)) at ≡ slice_index (number ∷ args) at
    by true h rest at = all_zero (number ∷ args) at h
    by false h rest zero = refl
    by false h rest (suc at) = rest at

pub no_longer : (args : List ℕ) → length (without_last_zeros args) ≤ length args
no_longer [] = omega arith
no_longer (number ∷ args) = by (list_all is_zero (number ∷ args)) (no_longer args)
  where
    by : (b : Bool) → length (without_last_zeros args) ≤ length args
        → length (cond b [] (number ∷ without_last_zeros args)) ≤ length (number ∷ args)
    by true h = omega arith
    by false h = omega (arith, h)

pub zeros_of : (P : ℕ → Type 0) (args : List ℕ) → AllByRecursion P args → AllByRecursion P (without_last_zeros args)
zeros_of P [] h = tt
zeros_of P (number ∷ args) h = by (list_all is_zero (number ∷ args)) (zeros_of P args h.1)
  where
    by : (b : Bool) → AllByRecursion P (without_last_zeros args) → AllByRecursion P (cond b [] (number ∷ without_last_zeros args))
    by true rest = tt
    by false rest = (h.0, rest)
