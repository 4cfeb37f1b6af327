-- Lines that change and keep their names.
use Rattle.std.proofs.Common.{◌≡◌, ℕ, List, [], ◌∷◌, map, refl}

pub names_kept : {L : Type 0} (name_of : L → List ℕ) (marked : L → L) → ((line : L) → name_of (marked line) ≡ name_of line)
    → (lines : List L) → map name_of (map marked lines) ≡ map name_of lines
names_kept name_of marked keeps [] = refl
names_kept name_of marked keeps (line ∷ lines) = λ i. keeps line i ∷ names_kept name_of marked keeps lines i
