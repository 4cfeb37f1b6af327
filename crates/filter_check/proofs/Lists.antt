-- Sets of words, word by word.
use Rattle.std.proofs.Common.{◌≡◌, ℕ, zero, suc, ◌+◌, ◌<◌, ◌≤◌, List, [], ◌∷◌, ◌++◌, map, set, get_or, take, length, refl, sym, ap, ◌∙◌}
use Rattle.std.proofs.Common.{arith}
use Rattle.std.specs.List.{AllZip}

pub map_set : {X Y : Type 0} (f : X → Y) (xs : List X) (at : ℕ) (x : X) → map f (set xs at x) ≡ set (map f xs) at (f x)
map_set f [] at x = refl
map_set f (y ∷ xs) zero x = refl
map_set f (y ∷ xs) (suc at) x = ap (λ ys. f y ∷ ys) (map_set f xs at x)

-- a relation between two lists holds if it holds at each place
pub zip_from_places : {X Y : Type 0} (R : X → Y → Type 0) (xs : List X) (ys : List Y) (d : X) (e : Y) → length xs ≡ length ys
    → ((at : ℕ) → at < length ys → R (get_or xs at d) (get_or ys at e)) → AllZip R xs ys
zip_from_places R [] [] d e l h = tt
zip_from_places R [] (y ∷ ys) d e l h = absurd (omega (arith, l))
zip_from_places R (x ∷ xs) [] d e l h = absurd (omega (arith, l))
zip_from_places R (x ∷ xs) (y ∷ ys) d e l h =
    (h 0 (omega arith), zip_from_places R xs ys d e (omega (arith, l)) (λ at lt. h (suc at) (omega (arith, lt))))

map_append : {X Y : Type 0} (f : X → Y) (xs : List X) (x : X) → map f (xs ++ x ∷ []) ≡ map f xs ++ f x ∷ []
map_append f [] x = refl
map_append f (y ∷ xs) x = ap (λ ys. f y ∷ ys) (map_append f xs x)

take_suc : {X Y : Type 0} (f : X → Y) (ys : List X) (i : ℕ) (y : X) → i < length ys → y ≡ get_or ys i y
    → take (suc i) (map f ys) ≡ take i (map f ys) ++ f y ∷ []
take_suc f [] i y lt e = absurd (omega (arith, lt))
take_suc f (z ∷ ys) zero y lt e = ap (λ w. f w ∷ []) (sym e)
take_suc f (z ∷ ys) (suc i) y lt e = ap (λ l. f z ∷ l) (take_suc f ys i y (omega (arith, lt)) e)

pub copied_more : {X Y : Type 0} (f : X → Y) (old new ys : List X) (i : ℕ) (x y : X) → map f old ≡ take i (map f ys) → i < length ys
    → y ≡ get_or ys i y → f x ≡ f y → new ≡ old ++ x ∷ [] → map f new ≡ take (i + 1) (map f ys)
copied_more f old new ys i x y h lt at same e =
    let next : i + 1 ≡ suc i = omega arith in
    ap (map f) e ∙ map_append f old x ∙ ap (λ l. l ++ f x ∷ []) h ∙ ap (λ v. take i (map f ys) ++ v ∷ []) same
    ∙ sym (take_suc f ys i y lt at) ∙ ap (λ n. take n (map f ys)) (sym next)

take_all : {X : Type 0} (xs : List X) (n : ℕ) → length xs ≤ n → take n xs ≡ xs
take_all [] zero le = refl
take_all [] (suc n) le = refl
take_all (x ∷ xs) zero le = absurd (omega (arith, le))
take_all (x ∷ xs) (suc n) le = ap (λ l. x ∷ l) (take_all xs n (omega (arith, le)))

length_map : {X Y : Type 0} (f : X → Y) (xs : List X) → length (map f xs) ≡ length xs
length_map f [] = refl
length_map f (x ∷ xs) = ap suc (length_map f xs)

pub copied_all : {X Y : Type 0} (f : X → Y) (xs ys : List X) (n : ℕ) → length ys ≤ n → map f xs ≡ take n (map f ys) → map f xs ≡ map f ys
copied_all f xs ys n le e = let l = length_map f ys in e ∙ take_all (map f ys) n (omega (arith, le, l))

pub same_length : {X Y : Type 0} (f : X → Y) (xs ys : List X) → map f xs ≡ map f ys → length xs ≡ length ys
same_length f xs ys e = sym (length_map f xs) ∙ ap length e ∙ length_map f ys

heads_are : {Y : Type 0} (x y : Y) (xs ys : List Y) → x ∷ xs ≡ y ∷ ys → x ≡ y
heads_are x y xs ys e = cc

tails_are : {Y : Type 0} (x y : Y) (xs ys : List Y) → x ∷ xs ≡ y ∷ ys → xs ≡ ys
tails_are x y xs ys e = cc

pub same_at : {X Y : Type 0} (f : X → Y) (xs ys : List X) (k : ℕ) (d : X) → map f xs ≡ map f ys → f (get_or xs k d) ≡ f (get_or ys k d)
same_at f [] [] k d e = refl
same_at f [] (y ∷ ys) k d e = cc
same_at f (x ∷ xs) [] k d e = cc
same_at f (x ∷ xs) (y ∷ ys) zero d e = heads_are _ _ _ _ e
same_at f (x ∷ xs) (y ∷ ys) (suc k) d e = same_at f xs ys k d (tails_are _ _ _ _ e)

pub by_sixteen : (P : ℕ → Type 0) → P 0 → P 1 → P 2 → P 3 → P 4 → P 5 → P 6 → P 7 → P 8 → P 9 → P 10 → P 11 → P 12 → P 13 → P 14 → P 15
    → (at : ℕ) → at < 16 → P at
by_sixteen P a b c d e f g h i j k l m n o p zero lt = a
by_sixteen P a b c d e f g h i j k l m n o p (suc zero) lt = b
by_sixteen P a b c d e f g h i j k l m n o p (suc (suc zero)) lt = c
by_sixteen P a b c d e f g h i j k l m n o p (suc (suc (suc at))) lt = from_three at (omega (arith, lt))
  where
    from_three : (at : ℕ) → at < 13 → P (suc (suc (suc at)))
    from_three zero lt = d
    from_three (suc zero) lt = e
    from_three (suc (suc zero)) lt = f
    from_three (suc (suc (suc zero))) lt = g
    from_three (suc (suc (suc (suc zero)))) lt = h
    from_three (suc (suc (suc (suc (suc zero))))) lt = i
    from_three (suc (suc (suc (suc (suc (suc zero)))))) lt = j
    from_three (suc (suc (suc (suc (suc (suc (suc zero))))))) lt = k
    from_three (suc (suc (suc (suc (suc (suc (suc (suc zero)))))))) lt = l
    from_three (suc (suc (suc (suc (suc (suc (suc (suc (suc zero))))))))) lt = m
    from_three (suc (suc (suc (suc (suc (suc (suc (suc (suc (suc zero)))))))))) lt = n
    from_three (suc (suc (suc (suc (suc (suc (suc (suc (suc (suc (suc zero))))))))))) lt = o
    from_three (suc (suc (suc (suc (suc (suc (suc (suc (suc (suc (suc (suc zero)))))))))))) lt = p
    from_three (suc (suc (suc (suc (suc (suc (suc (suc (suc (suc (suc (suc (suc at))))))))))))) lt = absurd (omega (arith, lt))

pub same_map_length : {X Y : Type 0} (f : X → Y) (xs : List X) → length (map f xs) ≡ length xs
same_map_length f xs = length_map f xs

pub zip_at : {X Y : Type 0} (R : X → Y → Type 0) (xs : List X) (ys : List Y) (at : ℕ) (d : X) (e : Y) → AllZip R xs ys → at < length ys
    → R (get_or xs at d) (get_or ys at e)
zip_at R [] [] at d e z lt = absurd (omega (arith, lt))
zip_at R [] (y ∷ ys) at d e z lt = absurd z
zip_at R (x ∷ xs) [] at d e z lt = absurd z
zip_at R (x ∷ xs) (y ∷ ys) zero d e z lt = z.0
zip_at R (x ∷ xs) (y ∷ ys) (suc at) d e z lt = zip_at R xs ys at d e z.1 (omega (arith, lt))

pub zip_put : {X Y : Type 0} (R : X → Y → Type 0) (xs : List X) (ys : List Y) (at : ℕ) (v : X) (e : Y) → AllZip R xs ys
    → R v (get_or ys at e) → AllZip R (set xs at v) ys
zip_put R [] [] at v e z r = tt
zip_put R [] (y ∷ ys) at v e z r = absurd z
zip_put R (x ∷ xs) [] at v e z r = absurd z
zip_put R (x ∷ xs) (y ∷ ys) zero v e z r = (r, z.1)
zip_put R (x ∷ xs) (y ∷ ys) (suc at) v e z r = (z.0, zip_put R xs ys at v e z.1 r)

pub zip_back : {X Y : Type 0} (R : X → Y → Type 0) (xs : List X) (ys : List Y) (at : ℕ) (v d : X) (e : Y) → AllZip R (set xs at v) ys
    → R (get_or xs at d) (get_or ys at e) → AllZip R xs ys
zip_back R [] [] at v d e z r = tt
zip_back R [] (y ∷ ys) at v d e z r = absurd z
zip_back R (x ∷ xs) [] zero v d e z r = absurd z
zip_back R (x ∷ xs) [] (suc at) v d e z r = absurd z
zip_back R (x ∷ xs) (y ∷ ys) zero v d e z r = (r, z.1)
zip_back R (x ∷ xs) (y ∷ ys) (suc at) v d e z r = (z.0, zip_back R xs ys at v d e z.1 r)

pub put_at : {X Y : Type 0} (R : X → Y → Type 0) (xs : List X) (ys : List Y) (at : ℕ) (v : X) (e : Y) → at < length ys
    → AllZip R (set xs at v) ys → R v (get_or ys at e)
put_at R [] [] at v e lt z = absurd (omega (arith, lt))
put_at R [] (y ∷ ys) at v e lt z = absurd z
put_at R (x ∷ xs) [] zero v e lt z = absurd z
put_at R (x ∷ xs) [] (suc at) v e lt z = absurd z
put_at R (x ∷ xs) (y ∷ ys) zero v e lt z = z.0
put_at R (x ∷ xs) (y ∷ ys) (suc at) v e lt z = put_at R xs ys at v e (omega (arith, lt)) z.1

pub zip_lengths : {X Y : Type 0} (R : X → Y → Type 0) (xs : List X) (ys : List Y) → AllZip R xs ys → length xs ≡ length ys
zip_lengths R [] [] z = refl
zip_lengths R [] (y ∷ ys) z = absurd z
zip_lengths R (x ∷ xs) [] z = absurd z
zip_lengths R (x ∷ xs) (y ∷ ys) z = ap suc (zip_lengths R xs ys z.1)
