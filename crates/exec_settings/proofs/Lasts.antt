-- The last element that says something, over the elements so far.
use Rattle.std.proofs.Common.{◌≡◌, ℕ, ◌+◌, ◌<◌, Option, Some, List, [], ◌∷◌, ◌++◌, length, take, get_or, refl, sym, ap, ◌∙◌}
use Rattle.std.specs.Prelude.{unwrap_or}
use Rattle.std.specs.List.{cons_option, filter_map}
use Rattle.std.proofs.lemmas.List.Elements.{filter_map-append}
use Rattle.cred_settings.specs.unit_grammar.Before.{last_of}
use Rattle.cred_settings.proofs.OfDropinMerge.OneMore.{take_item}

last_pushed : {X : Type 0} (xs : List X) (x : X) → last_of (xs ++ x ∷ []) ≡ Some x
last_pushed [] x = refl
last_pushed (y ∷ []) x = refl
last_pushed (y ∷ z ∷ xs) x = last_pushed (z ∷ xs) x

-- the next element says something, whatever was said before
pub last_so_far : {X Y : Type 0} (f : X → Option Y) (xs : List X) (i : ℕ) (x : X) (next default : Y) → i < length xs → x ≡ get_or xs i x
    → f x ≡ Some next → next ≡ unwrap_or (last_of (filter_map f (take (i + 1) xs))) default
last_so_far f xs i x next default lt is says = sym
    (ap (λ ones. unwrap_or (last_of (filter_map f ones)) default) (take_item xs i x lt is)
    ∙ ap (λ said. unwrap_or (last_of said) default) (filter_map-append f (take i xs) (x ∷ []))
    ∙ ap (λ o. unwrap_or (last_of (filter_map f (take i xs) ++ cons_option o [])) default) says
    ∙ ap (λ o. unwrap_or o default) (last_pushed (filter_map f (take i xs)) next))
