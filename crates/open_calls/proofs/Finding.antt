-- A name that is found among names by reference is found among the names.
use Rattle.std.proofs.Common.{◌≡◌, ℕ, Bool, true, false, cond, List, [], ◌∷◌, Option, Some, refl, ap, ◌∙◌, sym, Bor}
use Rattle.std.specs.Prelude.{find, map, option_map, option_copied}

find_mapped : {X Y : Type 0} (p : Y → Bool) (f : X → Y) (xs : List X) → find p (map f xs) ≡ option_map f (find (λ x. p (f x)) xs)
find_mapped p f [] = refl
find_mapped {X = X} {Y = Y} p f (x ∷ xs) = by (p (f x)) (find_mapped p f xs)
  where
    by : (b : Bool) → find p (map f xs) ≡ option_map f (find (λ x. p (f x)) xs)
        → cond b (Some (f x)) (find p (map f xs)) ≡ option_map f (cond b (Some x) (find (λ x. p (f x)) xs))
    by true more = refl
    by false more = more

pub found_name : (p : List ℕ → Bool) (names : List (Bor (List ℕ))) (own : List (List ℕ)) (found : Option (Bor (List ℕ)))
    → map (λ (name : Bor (List ℕ)). name.now) names ≡ own
    → option_copied found ≡ option_map (λ (name : Bor (List ℕ)). name.now) (find (λ (name : Bor (List ℕ)). p name.now) names)
    → find p own ≡ option_copied found
found_name p names own found same is = ap (find p) (sym same) ∙ find_mapped p (λ (name : Bor (List ℕ)). name.now) names ∙ sym is
