-- A fold over the rest of a list.
use Rattle.std.proofs.Common.{◌≡◌, ℕ, suc, ◌+◌, ◌<◌, List, ◌∷◌, length, drop, get_or, sym, ap, ◌∙◌, add-one}
use Rattle.std.specs.Prelude.{fold}
use Rattle.std.proofs.Math.Seq.{drop-cons}

pub fold_next : {A B : Type 0} (f : B → A → B) (now next : B) (xs : List A) (i : ℕ) (x : A) → i < length xs → x ≡ get_or xs i x
    → next ≡ f now x → fold f next (drop (i + 1) xs) ≡ fold f now (drop i xs)
fold_next f now next xs i x lt is step =
    ap (λ b. fold f b (drop (i + 1) xs)) step
    ∙ ap (λ k. fold f (f now x) (drop k xs)) (add-one i)
    ∙ sym (ap (fold f now) (drop-cons xs i x lt ∙ ap (λ y. y ∷ drop (suc i) xs) (sym is)))
