-- Paths in byte order of their texts.
use Rattle.std.proofs.Common.{◌≡◌, ℕ, true, false, List, [], ◌∷◌, ◌++◌, ◌⊎◌, inl, inr, refl, sym, ap, ◌∙◌, subst, append_assoc, Ordering}
use Rattle.std.proofs.Common.{Less, Equal, Greater, append-nil, Bool, ◌<◌, length, length-append, arith}
use Rattle.std.specs.Ordering.{is_lt, nat_cmp, ordering_then}
use Rattle.std.specs.Cmp.Lexicographic.{slice_cmp}
use Rattle.std.proofs.lemmas.Bool.{false≢true}
use Rattle.std.proofs.lemmas.Cmp.{nat_list_cmp_total, nat_cmp_total, tied_itself}
use Rattle.abs_path.specs.Paths.{Path, tail_of}
use Rattle.abs_path.specs.Prefix.{is_prefix, rest_of}
use Rattle.abs_path.specs.ByteOrder.{is_before}
use Rattle.abs_path.proofs.Prefixes.{prefix_and_rest}

pub tail-append : (front rest : Path) → tail_of (front ++ rest) ≡ tail_of front ++ tail_of rest
tail-append [] rest = refl
tail-append (part ∷ front) rest = ap (λ text. (47 ∷ part) ++ text) (tail-append front rest)
    ∙ sym (append_assoc (47 ∷ part) (tail_of front) (tail_of rest))

-- a text precedes itself with more after it
longer_is_later : (xs ys : List ℕ) (y : ℕ) → slice_cmp nat_cmp xs (xs ++ y ∷ ys) ≡ Less
longer_is_later [] ys y = refl
longer_is_later (x ∷ xs) ys y = ap (λ o. ordering_then o (slice_cmp nat_cmp xs (xs ++ y ∷ ys))) (tied_itself nat_cmp_total x)
    ∙ longer_is_later xs ys y

-- no path precedes itself
pub not_before_itself : (path : Path) → is_before path path ≡ false
not_before_itself path = ap is_lt (tied_itself nat_list_cmp_total (tail_of path))

lt_Less : (o : Ordering) → is_lt o ≡ true → o ≡ Less
lt_Less Less h = refl
lt_Less Equal h = absurd (false≢true h)
lt_Less Greater h = absurd (false≢true h)

pub before_trans : (one other third : Path) → is_before one other ≡ true → is_before other third ≡ true → is_before one third ≡ true
before_trans one other third h g =
    ap is_lt (nat_list_cmp_total.trans (tail_of one) (tail_of other) (tail_of third) (lt_Less _ h) (lt_Less _ g))

-- a path follows each path that leads to it
pub prefix_before : (front path : Path) → is_prefix front path ≡ true → (front ≡ path) ⊎ (is_before front path ≡ true)
prefix_before front path h = by (rest_of front path) (prefix_and_rest front path h)
  where
    by : (rest : Path) → front ++ rest ≡ path → (front ≡ path) ⊎ (is_before front path ≡ true)
    by [] e = inl (sym (append-nil front) ∙ e)
    by (part ∷ rest) e = inr (subst (λ (p : Path). is_before front p ≡ true) e
        (rw tail-append (ap is_lt (longer_is_later (tail_of front) (part ++ tail_of rest) 47))))

-- the text of a path is the text of its prefix, followed by the text of the rest
pub text_then_rest : (front path : Path) → is_prefix front path ≡ true → tail_of path ≡ tail_of front ++ tail_of (rest_of front path)
text_then_rest front path h = sym (ap tail_of (prefix_and_rest front path h)) ∙ tail-append front (rest_of front path)

-- a path does not lead to another with a shorter text
pub longer_is_no_prefix : (front path : Path) → length (tail_of path) < length (tail_of front) → false ≡ is_prefix front path
longer_is_no_prefix front path longer = by (is_prefix front path) refl
  where
    by : (b : Bool) → is_prefix front path ≡ b → false ≡ is_prefix front path
    by false e = sym e
    by true e = absurd (omega (arith, ap length (text_then_rest front path e) ∙ length-append (tail_of front) (tail_of (rest_of front path))))
