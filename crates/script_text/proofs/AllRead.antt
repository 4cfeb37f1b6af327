-- Words that are read one by one.
use Rattle.std.proofs.Common.{◌≡◌, ℕ, suc, ◌+◌, ◌<◌, Option, Some, None, List, [], ◌∷◌, ◌++◌, map, take, drop, length, get_or, refl, sym}
use Rattle.std.proofs.Common.{ap, ◌∙◌}
use Rattle.std.specs.Option.{option_map}
use Rattle.std.specs.Prelude.{option_and_then}
use Rattle.kernel_model.proofs.OfCallTable.Steps.{split_made, take_made}
use Rattle.script_text.specs.Numbers.{all_read, with_front}

-- one word that cannot be read
pub none_read : {A : Type 0} (read : List ℕ → Option A) (front : List (List ℕ)) (word : List ℕ) (rest : List (List ℕ)) → read word ≡ None
    → all_read read (front ++ word ∷ rest) ≡ None
none_read {A} read [] word rest h = ap (λ o. option_and_then (λ first. with_front first (all_read read rest)) o) h
none_read {A} read (one ∷ front) word rest h =
    ap (λ others. option_and_then (λ first. with_front first others) (read one)) (none_read read front word rest h) ∙ by (read one)
  where
    by : (o : Option A) → option_and_then (λ first. with_front {A = A} first None) o ≡ None
    by None = refl
    by (Some first) = refl

-- one more that can
pub more_read : {A : Type 0} (read : List ℕ → Option A) (front : List (List ℕ)) (made : List A) (word : List ℕ) (one : A)
    → all_read read front ≡ Some made → read word ≡ Some one
    → all_read read (front ++ word ∷ []) ≡ Some (made ++ one ∷ [])
more_read {A} read front made word one h e = all front ∙ ap (option_map (λ read. read ++ one ∷ [])) h
  where
    behind : (first : A) (others : Option (List A)) → with_front first (option_map (λ read. read ++ one ∷ []) others)
        ≡ option_map (λ read. read ++ one ∷ []) (with_front first others)
    behind first None = refl
    behind first (Some others) = refl

    step : (o : Option A) (others : Option (List A)) →
        option_and_then (λ first. with_front first (option_map (λ read. read ++ one ∷ []) others)) o
        ≡ option_map (λ read. read ++ one ∷ []) (option_and_then (λ first. with_front first others) o)
    step None others = refl
    step (Some first) others = behind first others

    all : (front : List (List ℕ)) → all_read read (front ++ word ∷ []) ≡ option_map (λ read. read ++ one ∷ []) (all_read read front)
    all [] = ap (λ o. option_and_then (λ first. with_front first (Some [])) o) e
    all (other ∷ front) = ap (λ others. option_and_then (λ first. with_front first others) (read other)) (all front)
        ∙ step (read other) (all_read read front)

-- the same of words that are lent, at a position
pub stops_at : {A X : Type 0} (read : List ℕ → Option A) (f : X → List ℕ) (xs : List X) (i : ℕ) (d : X) → i < length xs
    → read (f (get_or xs i d)) ≡ None → all_read read (map f xs) ≡ None
stops_at read f xs i d lt h = ap (all_read read) (split_made f xs i d lt)
    ∙ none_read read (map f (take i xs)) (f (get_or xs i d)) (map f (drop (suc i) xs)) h

pub goes_on : {A X : Type 0} (read : List ℕ → Option A) (f : X → List ℕ) (xs : List X) (i : ℕ) (d : X) (made new : List A) (one : A)
    → i < length xs → all_read read (map f (take i xs)) ≡ Some made
    → read (f (get_or xs i d)) ≡ Some one → new ≡ made ++ one ∷ [] → all_read read (map f (take (i + 1) xs)) ≡ Some new
goes_on read f xs i d made new one lt h e n =
    ap (all_read read) (take_made f xs i d lt) ∙ more_read read (map f (take i xs)) made (f (get_or xs i d)) one h e ∙ ap Some (sym n)
