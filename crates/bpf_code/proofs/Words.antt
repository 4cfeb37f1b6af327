-- The words of the arguments.
use Rattle.std.proofs.Common.{◌≡◌, ℕ, zero, suc, ◌+◌, ◌*◌, ◌%◌, ◌/◌, ◌^◌, ◌<◌, List, [], ◌∷◌, length, get_or, cond, eqb, refl, sym, arith}
use Rattle.std.specs.List.{flat_map}
use Rattle.bpf_code.specs.Effects.{halves}

pub low_half : (args : List ℕ) (i j : ℕ) → j ≡ 2 * i → i < length args → get_or (flat_map halves args) j 0 ≡ get_or args i 0 % 2 ^ 32
low_half [] i j e lt = absurd (omega arith)
low_half (x ∷ xs) zero j e lt = let z : j ≡ 0 = omega arith in rw z refl
low_half (x ∷ xs) (suc i) zero e lt = absurd (omega arith)
low_half (x ∷ xs) (suc i) (suc zero) e lt = absurd (omega arith)
low_half (x ∷ xs) (suc i) (suc (suc j)) e lt = low_half xs i j (omega arith) (omega arith)

pub high_half : (args : List ℕ) (i j : ℕ) → j ≡ 2 * i + 1 → i < length args → get_or (flat_map halves args) j 0 ≡ get_or args i 0 / 2 ^ 32
high_half [] i j e lt = absurd (omega arith)
high_half (x ∷ xs) zero j e lt = let z : j ≡ 1 = omega arith in rw z refl
high_half (x ∷ xs) (suc i) zero e lt = absurd (omega arith)
high_half (x ∷ xs) (suc i) (suc zero) e lt = absurd (omega arith)
high_half (x ∷ xs) (suc i) (suc (suc j)) e lt = high_half xs i j (omega arith) (omega arith)

word_by : (args : List ℕ) (at : ℕ) (r : ℕ) → at % 2 ≡ r → at < 2 * length args
    → cond (eqb r 1) (get_or args (at / 2) 0 / 2 ^ 32) (get_or args (at / 2) 0 % 2 ^ 32) ≡ get_or (flat_map halves args) at 0
word_by args at zero e lt = sym (low_half args (at / 2) at (omega arith) (omega arith))
word_by args at (suc zero) e lt = sym (high_half args (at / 2) at (omega arith) (omega arith))
word_by args at (suc (suc r)) e lt = absurd (omega arith)

pub word_of_arguments : (args : List ℕ) (at : ℕ) → at < 2 * length args
    → cond (eqb (at % 2) 1) (get_or args (at / 2) 0 / 2 ^ 32) (get_or args (at / 2) 0 % 2 ^ 32) ≡ get_or (flat_map halves args) at 0
word_of_arguments args at lt = word_by args at (at % 2) refl lt
