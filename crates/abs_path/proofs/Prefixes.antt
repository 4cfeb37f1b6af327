-- Prefixes of paths, by whole parts.
use Rattle.std.proofs.Common.{◌≡◌, ℕ, suc, Bool, true, false, List, [], ◌∷◌, ◌++◌, ◌⊎◌, inl, inr, length, cond, Some, None, refl, sym, ap}
use Rattle.std.proofs.Common.{◌∙◌, arith, append-nil}
use Rattle.std.specs.Prelude.{◌==◌, ◌&&◌, not}
use Rattle.std.specs.Str.{bytes_eq}
use Rattle.std.proofs.lemmas.Bool.{and_parts, and_from, false≢true}
use Rattle.std.proofs.lemmas.Slice.Eq.{bytes_eq-Decides}
use Rattle.abs_path.specs.Paths.{Path, tail_of}
use Rattle.abs_path.specs.Prefix.{is_prefix, is_same, is_below, rest_of, rest_text}

-- the test finds equal parts
pub same_part : (x y : List ℕ) → bytes_eq x y ≡ true → x ≡ y
same_part x y h = (bytes_eq-Decides x y).0 h

pub part_itself : (x y : List ℕ) → x ≡ y → bytes_eq x y ≡ true
part_itself x y h = (bytes_eq-Decides x y).1 h

pub prefix_itself : (path : Path) → is_prefix path path ≡ true
prefix_itself [] = refl
prefix_itself (part ∷ path) = and_from _ _ (part_itself part part refl) (prefix_itself path)

-- a prefix followed by a further path begins with the prefix
pub prefix-append : (front rest : Path) → is_prefix front (front ++ rest) ≡ true
prefix-append [] rest = refl
prefix-append (part ∷ front) rest = and_from _ _ (part_itself part part refl) (prefix-append front rest)

-- a path is its prefix followed by the rest
pub prefix_and_rest : (front path : Path) → is_prefix front path ≡ true → front ++ rest_of front path ≡ path
prefix_and_rest [] path h = refl
prefix_and_rest (part ∷ front) [] h = absurd (false≢true h)
prefix_and_rest (part ∷ front) (first ∷ path) h =
    let both = and_parts (bytes_eq part first) (is_prefix front path) h in
    let same = same_part part first both.0 in
    let more = prefix_and_rest front path both.1 in
    cc

pub prefix_trans : (one other third : Path) → is_prefix one other ≡ true → is_prefix other third ≡ true → is_prefix one third ≡ true
prefix_trans [] other third h g = refl
prefix_trans (x ∷ one) [] third h g = absurd (false≢true h)
prefix_trans (x ∷ one) (y ∷ other) [] h g = absurd (false≢true g)
prefix_trans (x ∷ one) (y ∷ other) (z ∷ third) h g =
    let first = and_parts (bytes_eq x y) (is_prefix one other) h in
    let second = and_parts (bytes_eq y z) (is_prefix other third) g in
    and_from _ _ (part_itself x z (same_part x y first.0 ∙ same_part y z second.0)) (prefix_trans one other third first.1 second.1)

-- one of two prefixes of a path leads to the other
pub prefix_chain : (one other path : Path) → is_prefix one path ≡ true → is_prefix other path ≡ true
    → (is_prefix one other ≡ true) ⊎ (is_prefix other one ≡ true)
prefix_chain [] other path h g = inl refl
prefix_chain (x ∷ one) [] path h g = inr refl
prefix_chain (x ∷ one) (y ∷ other) [] h g = absurd (false≢true h)
prefix_chain (x ∷ one) (y ∷ other) (z ∷ path) h g =
    let first = and_parts (bytes_eq x z) (is_prefix one path) h in
    let second = and_parts (bytes_eq y z) (is_prefix other path) g in
    let same : x ≡ y = same_part x z first.0 ∙ sym (same_part y z second.0) in
    elim (prefix_chain one other path first.1 second.1) [
      | inl w ↦ inl (and_from _ _ (part_itself x y same) w)
      | inr w ↦ inr (and_from _ _ (part_itself y x (sym same)) w)
    ]

-- the rest after a prefix is the rest up to a path in between, and then the rest after that path
pub rest_through : (one other path : Path) → is_prefix one other ≡ true → is_prefix other path ≡ true
    → rest_of one path ≡ rest_of one other ++ rest_of other path
rest_through [] other path h g = sym (prefix_and_rest other path g)
rest_through (x ∷ one) [] path h g = absurd (false≢true h)
rest_through (x ∷ one) (y ∷ other) [] h g = absurd (false≢true g)
rest_through (x ∷ one) (y ∷ other) (z ∷ path) h g =
    rest_through one other path (and_parts (bytes_eq x y) (is_prefix one other) h).1 (and_parts (bytes_eq y z) (is_prefix other path) g).1

pub same_path : (one other : Path) → is_same one other ≡ true → one ≡ other
same_path [] [] h = refl
same_path [] (y ∷ other) h = absurd (false≢true h)
same_path (x ∷ one) [] h = absurd (false≢true h)
same_path (x ∷ one) (y ∷ other) h =
    let both = and_parts (bytes_eq x y) (is_same one other) h in
    let first = same_part x y both.0 in
    let more = same_path one other both.1 in
    cc

pub same_itself : (path : Path) → is_same path path ≡ true
same_itself [] = refl
same_itself (part ∷ path) = and_from _ _ (part_itself part part refl) (same_itself path)

pub prefix_antisymm : (one other : Path) → is_prefix one other ≡ true → is_prefix other one ≡ true → one ≡ other
prefix_antisymm [] [] h g = refl
prefix_antisymm [] (y ∷ other) h g = absurd (false≢true g)
prefix_antisymm (x ∷ one) [] h g = absurd (false≢true h)
prefix_antisymm (x ∷ one) (y ∷ other) h g =
    let both = and_parts (bytes_eq x y) (is_prefix one other) h in
    let first = same_part x y both.0 in
    let more = prefix_antisymm one other both.1 (and_parts (bytes_eq y x) (is_prefix other one) g).1 in
    cc

pub rest-append : (front more : Path) → rest_of front (front ++ more) ≡ more
rest-append [] more = refl
rest-append (part ∷ front) more = rest-append front more

pub rest_text-append : (front more : Path) → rest_text front (front ++ more) ≡ Some (tail_of more)
rest_text-append front more = ap (λ b. cond b (Some (tail_of (rest_of front (front ++ more)))) None) (prefix-append front more)
    ∙ ap (λ p. Some (tail_of p)) (rest-append front more)

-- a path with more parts is another path
longer_is_other : (front more : Path) (part : List ℕ) → is_same front (front ++ part ∷ more) ≡ false
longer_is_other [] more part = refl
longer_is_other (first ∷ front) more part = ap (λ b. b && is_same front (front ++ part ∷ more)) (part_itself first first refl)
    ∙ longer_is_other front more part

has_bytes : (n : ℕ) → not (suc n == 0) ≡ true
has_bytes n = grind arith

-- a path is strictly below another that leads to it if it has a rest after it
pub below_by_rest : (front path : Path) (rest : List ℕ) → Some rest ≡ rest_text front path → not (length rest == 0) ≡ is_below path front
below_by_rest front path rest e = by (is_prefix front path) refl e
  where
    behind : (more : Path) → front ++ more ≡ path → rest ≡ tail_of more → not (length rest == 0) ≡ not (is_same front path)
    behind [] whole text = ap (λ (t : List ℕ). not (length t == 0)) text
        ∙ sym (ap (λ p. not (is_same front p)) (sym whole ∙ append-nil front) ∙ ap not (same_itself front))
    behind (part ∷ more) whole text = ap (λ (t : List ℕ). not (length t == 0)) text ∙ has_bytes (length (part ++ tail_of more))
        ∙ sym (ap (λ p. not (is_same front p)) (sym whole) ∙ ap not (longer_is_other front more part))

    by : (b : Bool) → is_prefix front path ≡ b → Some rest ≡ cond b (Some (tail_of (rest_of front path))) None
        → not (length rest == 0) ≡ (b && not (is_same front path))
    by false leads e = cc
    by true leads e =
        let text : rest ≡ tail_of (rest_of front path) = cc in
        behind (rest_of front path) (prefix_and_rest front path leads) text
