-- One more assignment of a walk gives a value or none.
use Rattle.std.proofs.Common.{◌≡◌, List, [], ◌∷◌, ◌++◌, Option, Some, None, sym, ap, ◌∙◌, append_assoc, append-nil}
use Rattle.std.specs.Prelude.{flat_map}
use Rattle.std.specs.List.{cons_option, filter_map}

moved : {Y : Type 0} (o : Option Y) (now rest : List Y) → now ++ cons_option o rest ≡ (now ++ cons_option o []) ++ rest
moved None now rest = ap (λ ys. ys ++ rest) (sym (append-nil now))
moved (Some y) now rest = sym (append_assoc now (y ∷ []) rest)

-- the whole is what was found and what the rest gives, also after one more
pub found_more : {X Y : Type 0} (f : X → Option Y) (left more : List X) (x : X) (all now new : List Y) → left ≡ x ∷ more
    → all ≡ now ++ filter_map f left → new ≡ now ++ cons_option (f x) [] → all ≡ new ++ filter_map f more
found_more f left more x all now new first before after =
    before
    ∙ ap (λ xs. now ++ filter_map f xs) first
    ∙ moved (f x) now (filter_map f more)
    ∙ ap (λ ys. ys ++ filter_map f more) (sym after)

-- the whole is the same if each element gives a list
pub added_more : {X Y : Type 0} (g : X → List Y) (left more : List X) (x : X) (all now new : List Y) → left ≡ x ∷ more
    → all ≡ now ++ flat_map g left → new ≡ now ++ g x → all ≡ new ++ flat_map g more
added_more g left more x all now new first before after =
    before
    ∙ ap (λ xs. now ++ flat_map g xs) first
    ∙ sym (append_assoc now (g x) (flat_map g more))
    ∙ ap (λ ys. ys ++ flat_map g more) (sym after)
