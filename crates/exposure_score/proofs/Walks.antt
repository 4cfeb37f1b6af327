-- Steps of loops over lists.
use Rattle.std.proofs.Common.{◌≡◌, ◌<◌, ◌≤◌, ◌+◌, ℕ, List, [], ◌∷◌, ◌++◌, length, take, get_or, sym, ap, ◌∙◌, subst}
use Rattle.std.specs.List.{AllZip}
use Rattle.std.proofs.lemmas.Slice.Zip.{all_zipped_more}
use Rattle.std.proofs.lemmas.List.{take_more, take_all}

pub zipped_more : {A B : Type 0} (R : A → B → Type 0) (xs : List A) (i : ℕ) (x : A) (ys : List B) (y : B) → i < length xs
    → x ≡ get_or xs i x → AllZip R (take i xs) ys → R x y
    → AllZip R (take (i + 1) xs) (ys ++ y ∷ [])
zipped_more R xs i x ys y h is zip r =
    let longer = take_more xs i x h in
    subst (λ (front : List _). AllZip R front (ys ++ y ∷ [])) (sym (longer ∙ ap (λ z. take i xs ++ z ∷ []) (sym is)))
    (all_zipped_more R (take i xs) ys x y zip r)

pub zipped_all : {A B : Type 0} (R : A → B → Type 0) (xs : List A) (i : ℕ) (ys : List B) → length xs ≤ i → AllZip R (take i xs) ys
    → AllZip R xs ys
zipped_all R xs i ys h zip = subst (λ (front : List _). AllZip R front ys) (take_all i xs h) zip
