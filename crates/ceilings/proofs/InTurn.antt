-- Whether some line passes, where lines are looked at in turn.
use Rattle.std.proofs.Common.{◌≡◌, ℕ, suc, ◌+◌, ◌<◌, Bool, true, false, List, ◌∷◌, length, drop, get_or, sym, ap, ◌∙◌, add-one}
use Rattle.std.specs.Prelude.{◌||◌}
use Rattle.std.specs.List.{list_any}
use Rattle.std.proofs.Math.Seq.{drop-cons}

module _ {X : Type 0} (p : X → Bool) (xs : List X) (i : ℕ) (x : X) (lt : i < length xs) (is : x ≡ get_or xs i x) where
  left : list_any p (drop i xs) ≡ (p x || list_any p (drop (suc i) xs))
  left = ap (list_any p) (drop-cons xs i x lt ∙ ap (λ y. y ∷ drop (suc i) xs) (sym is))

  -- one that passes
  pub passes_here : p x ≡ true → list_any p (drop i xs) ≡ true
  passes_here on = left ∙ ap (λ b. b || list_any p (drop (suc i) xs)) on

  -- one that does not
  pub passes_later : p x ≡ false → list_any p (drop (i + 1) xs) ≡ list_any p (drop i xs)
  passes_later off =
      ap (λ k. list_any p (drop k xs)) (add-one i) ∙ sym (left ∙ ap (λ b. b || list_any p (drop (suc i) xs)) off)
