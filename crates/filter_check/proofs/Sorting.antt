-- The order of words, of which the first that differs decides.
use Rattle.std.proofs.Common.{◌≡◌, ℕ, ◌<◌, ◌≤◌, Bool, true, false, cond, List, [], ◌∷◌, ◌⊎◌, inl, inr, refl, sym, ap, ◌∙◌, subst}
use Rattle.std.proofs.Common.{arith}
use Rattle.std.specs.Prelude.{◌==◌}
use Rattle.std.specs.List.{AllZip}
use Rattle.std.specs.Cmp.Lexicographic.{slice_cmp}
use Rattle.std.specs.Ordering.{nat_cmp, ordering_then, is_lt}
use Rattle.std.specs.declared.cmp.Ordering.TheVariants.{Less, Equal, Greater}
use Rattle.std.proofs.lemmas.Bool.{cases_order, cases_lt, lt-ltb, le-ltb, eq-eqb, ne_eqb}
use Rattle.filter_check.specs.Order.{IsNotAfter}

pub not_after_self : (words : List ℕ) → IsNotAfter words words
not_after_self [] = tt
not_after_self (word ∷ words) = inr (refl, not_after_self words)

step : (x y z : ℕ) (xs ys zs : List ℕ) → (IsNotAfter xs ys → IsNotAfter ys zs → IsNotAfter xs zs) → IsNotAfter (x ∷ xs) (y ∷ ys)
    → IsNotAfter (y ∷ ys) (z ∷ zs) → IsNotAfter (x ∷ xs) (z ∷ zs)
step x y z xs ys zs more (inl lt) (inl below) = inl (omega (arith, lt, below))
step x y z xs ys zs more (inl lt) (inr h) = inl (subst (λ n. x < n) h.0 lt)
step x y z xs ys zs more (inr g) (inl below) = inl (subst (λ n. n < z) (sym g.0) below)
step x y z xs ys zs more (inr g) (inr h) = inr (g.0 ∙ h.0, more g.1 h.1)

pub not_after_then : (xs ys zs : List ℕ) → IsNotAfter xs ys → IsNotAfter ys zs → IsNotAfter xs zs
not_after_then [] ys zs g h = tt
not_after_then (x ∷ xs) [] zs g h = absurd g
not_after_then (x ∷ xs) (y ∷ ys) [] g h = absurd h
not_after_then (x ∷ xs) (y ∷ ys) (z ∷ zs) g h = step x y z xs ys zs (not_after_then xs ys zs) g h

pub le_step : (x y : ℕ) (xs ys : List ℕ) → x ≤ y → IsNotAfter xs ys → IsNotAfter (x ∷ xs) (y ∷ ys)
le_step x y xs ys le more = elim (cases_lt x y) [
  | inl lt ↦ inl lt
  | inr ge ↦ inr (omega (arith, le, ge), more)
]

-- words that are each at most the other ones are not after them
pub not_after_below : (xs ys : List ℕ) → AllZip (λ (one other : ℕ). one ≤ other) xs ys → IsNotAfter xs ys
not_after_below [] ys z = tt
not_after_below (x ∷ xs) [] z = absurd z
not_after_below (x ∷ xs) (y ∷ ys) z = le_step x y xs ys z.0 (not_after_below xs ys z.1)

tail_same : (x y : ℕ) (xs ys : List ℕ) → (IsNotAfter xs ys → IsNotAfter ys xs → xs ≡ ys) → IsNotAfter (x ∷ xs) (y ∷ ys)
    → IsNotAfter (y ∷ ys) (x ∷ xs) → x ∷ xs ≡ y ∷ ys
tail_same x y xs ys more (inl lt) (inl below) = absurd (omega (arith, lt, below))
tail_same x y xs ys more (inl lt) (inr h) = absurd (omega (arith, lt, h.0))
tail_same x y xs ys more (inr g) (inl below) = absurd (omega (arith, below, g.0))
tail_same x y xs ys more (inr g) (inr h) = let e = more g.1 h.1 in let f = g.0 in cc

-- if neither list is after the other, they are the same
pub same_words : (xs ys : List ℕ) → IsNotAfter xs ys → IsNotAfter ys xs → xs ≡ ys
same_words [] [] g h = refl
same_words [] (y ∷ ys) g h = absurd h
same_words (x ∷ xs) [] g h = absurd g
same_words (x ∷ xs) (y ∷ ys) g h = tail_same x y xs ys (same_words xs ys) g h

-- the order by std's comparison
less : (x y : ℕ) → x < y → nat_cmp x y ≡ Less
less x y lt = ap (λ t. cond t Less (cond (x == y) Equal Greater)) (lt-ltb x y lt)

equal : (x y : ℕ) → x ≡ y → nat_cmp x y ≡ Equal
equal x y e = ap (λ t. cond t Less (cond (x == y) Equal Greater)) (le-ltb x y (omega (arith, e)))
    ∙ ap (λ t. cond t Equal Greater) (eq-eqb x y e)

greater : (x y : ℕ) → y < x → nat_cmp x y ≡ Greater
greater x y lt = ap (λ t. cond t Less (cond (x == y) Equal Greater)) (le-ltb x y (omega (arith, lt)))
    ∙ ap (λ t. cond t Equal Greater) (ne_eqb x y (λ e. absurd (omega (arith, e, lt))))

then_is : (x y : ℕ) (xs ys : List ℕ) (t : Bool) → is_lt (slice_cmp nat_cmp (x ∷ xs) (y ∷ ys)) ≡ t → (o : _) → nat_cmp x y ≡ o
    → is_lt (ordering_then o (slice_cmp nat_cmp xs ys)) ≡ t
then_is x y xs ys t h o e = subst (λ p. is_lt (ordering_then p (slice_cmp nat_cmp xs ys)) ≡ t) e h

before_step : (x y : ℕ) (xs ys : List ℕ) → (is_lt (slice_cmp nat_cmp xs ys) ≡ true → IsNotAfter xs ys)
    → is_lt (slice_cmp nat_cmp (x ∷ xs) (y ∷ ys)) ≡ true → (x ≡ y) ⊎ ((x < y) ⊎ (y < x)) → IsNotAfter (x ∷ xs) (y ∷ ys)
before_step x y xs ys more h (inl e) = inr (e, more (then_is x y xs ys true h Equal (equal x y e)))
before_step x y xs ys more h (inr (inl lt)) = inl lt
before_step x y xs ys more h (inr (inr gt)) = let no = then_is x y xs ys true h Greater (greater x y gt) in cc

pub before_by_cmp : (xs ys : List ℕ) → is_lt (slice_cmp nat_cmp xs ys) ≡ true → IsNotAfter xs ys
before_by_cmp [] ys h = tt
before_by_cmp (x ∷ xs) [] h = cc
before_by_cmp (x ∷ xs) (y ∷ ys) h = before_step x y xs ys (before_by_cmp xs ys) h (cases_order x y)

behind_step : (x y : ℕ) (xs ys : List ℕ) → (is_lt (slice_cmp nat_cmp xs ys) ≡ false → IsNotAfter ys xs)
    → is_lt (slice_cmp nat_cmp (x ∷ xs) (y ∷ ys)) ≡ false → (x ≡ y) ⊎ ((x < y) ⊎ (y < x)) → IsNotAfter (y ∷ ys) (x ∷ xs)
behind_step x y xs ys more h (inl e) = inr (sym e, more (then_is x y xs ys false h Equal (equal x y e)))
behind_step x y xs ys more h (inr (inl lt)) = let no = then_is x y xs ys false h Less (less x y lt) in cc
behind_step x y xs ys more h (inr (inr gt)) = inl gt

pub behind_by_cmp : (xs ys : List ℕ) → is_lt (slice_cmp nat_cmp xs ys) ≡ false → IsNotAfter ys xs
behind_by_cmp [] [] h = tt
behind_by_cmp [] (y ∷ ys) h = cc
behind_by_cmp (x ∷ xs) [] h = tt
behind_by_cmp (x ∷ xs) (y ∷ ys) h = behind_step x y xs ys (behind_by_cmp xs ys) h (cases_order x y)
