-- One element of a list written.
use Rattle.std.proofs.Common.{◌≡◌, ◌<◌, ◌+◌, add-one, ℕ, zero, suc, List, [], ◌∷◌, ◌++◌, length, take, drop, set, refl, ap, ◌∙◌, sym, arith}

pub written : {X : Type 0} (xs : List X) (i : ℕ) (x : X) → i < length xs → set xs i x ≡ take i xs ++ x ∷ drop (i + 1) xs
written [] i x lt = absurd (omega arith)
written (y ∷ xs) zero x lt = refl
written (y ∷ xs) (suc i) x lt = ap (λ t. y ∷ t) (written xs i x (omega arith)) ∙ ap (λ n. y ∷ (take i xs ++ x ∷ drop n xs)) (add-one i)
    ∙ ap (λ n. y ∷ (take i xs ++ x ∷ drop n (y ∷ xs))) (sym (add-one (suc i)))
