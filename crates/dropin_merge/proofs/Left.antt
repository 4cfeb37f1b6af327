-- The rest of a list after an element that was read.
use Rattle.std.proofs.Common.{◌≡◌, ℕ, ◌+◌, ◌<◌, List, ◌∷◌, length, drop, get_or, map, String, Global, sym, ap, ◌∙◌}
use Rattle.std.specs.Prelude.{string_bytes}
use Rattle.std.proofs.lemmas.List.{drop_more}

-- an element that was read is the first of the remaining ones
pub drop_read : {X : Type 0} (xs : List X) (i : ℕ) (x : X) → i < length xs → x ≡ get_or xs i x → drop i xs ≡ x ∷ drop (i + 1) xs
drop_read xs i x h is = drop_more xs i x h ∙ ap (λ y. y ∷ drop (i + 1) xs) (sym is)

-- the same holds of the texts of the elements
pub left_more : (xs : List (String Global)) (i : ℕ) (x : String Global) (text : List ℕ) → i < length xs → x ≡ get_or xs i x
    → text ≡ string_bytes x → map string_bytes (drop i xs) ≡ text ∷ map string_bytes (drop (i + 1) xs)
left_more xs i x text h is said = ap (map string_bytes) (drop_read xs i x h is)
    ∙ ap (λ t. t ∷ map string_bytes (drop (i + 1) xs)) (sym said)
