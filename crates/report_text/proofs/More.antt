-- Texts that grow by what is told of each thing of a list.
use Rattle.std.proofs.Common.{◌≡◌, ◌∙◌, ℕ, ◌+◌, ◌<◌, List, [], ◌∷◌, ◌++◌, append-nil, append_assoc, length, get_or, take, ap, sym}
use Rattle.std.specs.Prelude.{flat_map}
use Rattle.std.proofs.lemmas.List.Concat.{flat_map-append}
use Rattle.std.proofs.lemmas.List.{take_more}

-- one more that is told behind those before it
pub told_more : {X Y : Type 0} (f : X → List Y) (first now more : List Y) (list : List X) (i : ℕ) (d : X) → i < length list
    → now ≡ first ++ flat_map f (take i list) → more ≡ now ++ f (get_or list i d) → more ≡ first ++ flat_map f (take (i + 1) list)
told_more f first now more list i d lt was adds =
    adds ∙ ap (λ front. front ++ f (get_or list i d)) was ∙ append_assoc first (flat_map f (take i list)) (f (get_or list i d))
    ∙ ap (λ rest. first ++ rest) (sym (more_of f list i d lt))
  where
    more_of : {X Y : Type 0} (f : X → List Y) (list : List X) (i : ℕ) (d : X) → i < length list
        → flat_map f (take (i + 1) list) ≡ flat_map f (take i list) ++ f (get_or list i d)
    more_of f list i d lt =
        ap (flat_map f) (take_more list i d lt) ∙ flat_map-append f (take i list) (get_or list i d ∷ [])
        ∙ ap (λ end. flat_map f (take i list) ++ end) (append-nil (f (get_or list i d)))
