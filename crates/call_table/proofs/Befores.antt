-- Each line with the lines before it, after one more line.
use Rattle.std.proofs.Common.{◌≡◌, Option, List, [], ◌∷◌, ◌++◌, sym, ap, ◌∙◌, append_assoc, append-nil}
use Rattle.std.specs.List.{filter_map}
use Rattle.std.proofs.lemmas.List.Elements.{filter_map-append}
use Rattle.call_table.specs.Before.{with_before}

pub with_before-append : {X : Type 0} (before xs more : List X)
    → with_before before (xs ++ more) ≡ with_before before xs ++ with_before (before ++ xs) more
with_before-append before [] more = ap (λ b. with_before b more) (sym (append-nil before))
with_before-append before (first ∷ xs) more =
    ap (λ ls. (before, first) ∷ ls)
    (with_before-append (before ++ first ∷ []) xs more
    ∙ ap (λ b. with_before (before ++ first ∷ []) xs ++ with_before b more) (append_assoc before (first ∷ []) xs))

-- each element gives its values, with more elements
pub given-append : {X Y : Type 0} (f : List X × X → Option Y) (xs more : List X)
    → filter_map f (with_before [] (xs ++ more)) ≡ filter_map f (with_before [] xs) ++ filter_map f (with_before xs more)
given-append f xs more = ap (filter_map f) (with_before-append [] xs more) ∙ filter_map-append f (with_before [] xs) (with_before xs more)
