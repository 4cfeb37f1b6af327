-- One more element changes the answer over the elements so far.
use Rattle.std.proofs.Common.{◌≡◌, ℕ, ◌+◌, ◌-◌, ◌<◌, Bool, true, false, cond, Option, Some, None, List, [], ◌∷◌, ◌++◌, length, take, drop}
use Rattle.std.proofs.Common.{get_or, refl, sym, ap, ◌∙◌, arith, append_assoc, append-nil, length-append}
use Rattle.std.specs.Prelude.{flat_map, not, unwrap_or}
use Rattle.std.specs.List.{filter_map, cons_option, after_last, suffix_len, prefix_len}
use Rattle.std.proofs.lemmas.List.{reverse-append, drop-append-le, take_more}
use Rattle.std.proofs.lemmas.List.Elements.{filter_map-append}
use Rattle.std.proofs.lemmas.List.Sums.{suffix_len-le-length}
use Rattle.std.proofs.lemmas.List.Concat.{flat_map-append}
use Rattle.std.proofs.Math.ListN.{drop_of_length-le}
use Rattle.unit_grammar.proofs.Befores.{later}

suffix_len-push : {X : Type 0} (q : X → Bool) (xs : List X) (x : X) → suffix_len q (xs ++ x ∷ []) ≡ cond (q x) (1 + suffix_len q xs) 0
suffix_len-push q xs x = ap (prefix_len q) (reverse-append xs (x ∷ []))

-- the elements after the last one that passes
pub after_last-push : {X : Type 0} (p : X → Bool) (xs : List X) (x : X)
    → after_last p (xs ++ x ∷ []) ≡ cond (p x) [] (after_last p xs ++ x ∷ [])
after_last-push p xs x =
    let size : length (xs ++ x ∷ []) ≡ length xs + 1 = length-append xs (x ∷ []) in
    let few = suffix_len-le-length (λ y. not (p y)) xs in
    ap (λ s. drop (length (xs ++ x ∷ []) - s) (xs ++ x ∷ [])) (suffix_len-push (λ y. not (p y)) xs x)
    ∙ elim (p x) as (λ b. drop (length (xs ++ x ∷ []) - cond (not b) (1 + suffix_len (λ y. not (p y)) xs) 0) (xs ++ x ∷ [])
    ≡ cond b [] (after_last p xs ++ x ∷ [])) [
      | true ↦ drop_of_length-le (xs ++ x ∷ []) (omega arith)
      | false ↦
          let same : length (xs ++ x ∷ []) - (1 + suffix_len (λ y. not (p y)) xs) ≡ length xs - suffix_len (λ y. not (p y)) xs = omega (arith, size, few) in
          ap (λ n. drop n (xs ++ x ∷ [])) same ∙ drop-append-le (length xs - suffix_len (λ y. not (p y)) xs) xs (x ∷ []) (omega arith)
    ]

-- the front of a list with the next element
pub take_item : {X : Type 0} (xs : List X) (i : ℕ) (x : X) → i < length xs → x ≡ get_or xs i x → take (i + 1) xs ≡ take i xs ++ x ∷ []
take_item xs i x lt is = take_more xs i x lt ∙ ap (λ y. take i xs ++ y ∷ []) (sym is)

-- each element adds to a list
pub added_by_all : {X Y : Type 0} (f : X → List Y) (xs : List X) (i : ℕ) (x : X) (old now next : List Y) → i < length xs
    → x ≡ get_or xs i x → now ≡ old ++ flat_map f (take i xs) → next ≡ now ++ f x → next ≡ old ++ flat_map f (take (i + 1) xs)
added_by_all f xs i x old now next lt is before step =
    step
    ∙ ap (λ ys. ys ++ f x) before
    ∙ append_assoc old (flat_map f (take i xs)) (f x)
    ∙ ap (λ ys. old ++ ys)
    (sym
    (ap (flat_map f) (take_item xs i x lt is)
    ∙ flat_map-append f (take i xs) (x ∷ [])
    ∙ ap (λ ys. flat_map f (take i xs) ++ ys) (append-nil (f x))))

-- each element may add to a list
pub added_by_some : {X Y : Type 0} (f : X → Option Y) (xs : List X) (i : ℕ) (x : X) (old now next : List Y) → i < length xs
    → x ≡ get_or xs i x → now ≡ old ++ filter_map f (take i xs) → next ≡ now ++ cons_option (f x) []
    → next ≡ old ++ filter_map f (take (i + 1) xs)
added_by_some f xs i x old now next lt is before step =
    step
    ∙ ap (λ ys. ys ++ cons_option (f x) []) before
    ∙ append_assoc old (filter_map f (take i xs)) (cons_option (f x) [])
    ∙ ap (λ ys. old ++ ys) (sym (ap (filter_map f) (take_item xs i x lt is) ∙ filter_map-append f (take i xs) (x ∷ [])))

-- the later of two values, or a default
pub unwrap_later : {X : Type 0} (o old : Option X) (default : X) → unwrap_or (later o old) default ≡ unwrap_or o (unwrap_or old default)
unwrap_later None old default = refl
unwrap_later (Some x) old default = refl
