-- The numbers in order, and the last of them.
use Rattle.std.proofs.Common.{◌≡◌, ℕ, zero, suc, ◌+◌, [], ◌∷◌, ◌++◌, length, refl, ap, ◌∙◌, arith}
use Rattle.sample_inputs.specs.Site.{numbers_from}

pub length_numbers : (first count : ℕ) → length (numbers_from first count) ≡ count
length_numbers first zero = refl
length_numbers first (suc count) = omega (arith, length_numbers (first + 1) count)

one_more : (first count : ℕ) → numbers_from first (suc count) ≡ numbers_from first count ++ (first + count) ∷ []
one_more first zero = ap (λ number. number ∷ []) (omega arith)
one_more first (suc count) =
    ap (λ numbers. first ∷ numbers) (one_more (first + 1) count)
    ∙ ap (λ number. first ∷ (numbers_from (first + 1) count ++ number ∷ [])) (omega arith)

pub numbers_last : (first count : ℕ) → numbers_from first (count + 1) ≡ numbers_from first count ++ (first + count) ∷ []
numbers_last first count = let same : count + 1 ≡ suc count = omega arith in ap (numbers_from first) same ∙ one_more first count
