-- A path's parts and its text determine each other.
use Rattle.std.proofs.Common.{◌≡◌, ℕ, Bool, true, false, List, [], ◌∷◌, ◌++◌, filter, refl, sym, ap, ◌∙◌, append-nil}
use Rattle.std.specs.Prelude.{◌==◌, not}
use Rattle.std.specs.List.{All, AllByRecursion, list_any, slice_split}
use Rattle.std.proofs.lemmas.Bool.{and_parts, not-true, or_parts}
use Rattle.std.proofs.lemmas.List.Elements.{All-from_recursion}
use Rattle.std.proofs.lemmas.List.Splits.{slice_split_none, slice_split_at}
use Rattle.abs_path.specs.Paths.{Path, tail_of, parts_of, is_part, is_idle, is_normal}

-- no element passes
none_passes : (test : ℕ → Bool) (xs : List ℕ) → list_any test xs ≡ false → AllByRecursion (λ x. test x ≡ false) xs
none_passes test [] h = tt
none_passes test (x ∷ xs) h = let both = or_parts (test x) (list_any test xs) h in (both.0, none_passes test xs both.1)

no_slash : (part : List ℕ) → is_part part ≡ true → All (λ byte. (byte == 47) ≡ false) part
no_slash part h = All-from_recursion (λ byte. (byte == 47) ≡ false) part
    (none_passes (λ byte. byte == 47) part (not-true _ (and_parts _ _ (and_parts _ _ h).0).0))

not_idle : (part : List ℕ) → is_part part ≡ true → not (is_idle part) ≡ true
not_idle part h = (and_parts _ _ (and_parts _ _ h).1).0

abbrev is_slash : ℕ → Bool
is_slash byte = byte == 47

-- the pieces between the slashes of a normal path: an empty one before the first slash, and then the parts
pub tail_pieces : (path : Path) → is_normal path ≡ true → slice_split is_slash (tail_of path) ≡ [] ∷ path
tail_pieces [] h = refl
tail_pieces (part ∷ path) h = let both = and_parts (is_part part) (is_normal path) h in ap (λ rest. [] ∷ rest) (by path (no_slash part both.0) (tail_pieces path both.1))
  where
    by : (rest : Path) → All (λ byte. is_slash byte ≡ false) part → slice_split is_slash (tail_of rest) ≡ [] ∷ rest
        → slice_split is_slash (part ++ tail_of rest) ≡ part ∷ rest
    by [] clean e = rw append-nil (slice_split_none is_slash part clean)
    by (next ∷ rest) clean e =
        let first : slice_split is_slash (part ++ 47 ∷ (next ++ tail_of rest)) ≡ part ∷ slice_split is_slash (next ++ tail_of rest) = slice_split_at is_slash part 47 (next ++ tail_of rest) clean refl in
        let more : [] ∷ slice_split is_slash (next ++ tail_of rest) ≡ [] ∷ next ∷ rest = e in
        cc

keeps_parts : (path : Path) → is_normal path ≡ true → filter (λ part. not (is_idle part)) path ≡ path
keeps_parts [] h = refl
keeps_parts (part ∷ path) h =
    let both = and_parts (is_part part) (is_normal path) h in
    let busy = not_idle part both.0 in
    let more = keeps_parts path both.1 in
    cc

-- the parts of a normal path's text are the path
pub parts-tail : (path : Path) → is_normal path ≡ true → parts_of (tail_of path) ≡ path
parts-tail path h = ap (filter (λ part. not (is_idle part))) (tail_pieces path h) ∙ keeps_parts path h

-- normal paths with the same text are equal
pub same_tail : (one other : Path) → is_normal one ≡ true → is_normal other ≡ true → tail_of one ≡ tail_of other → one ≡ other
same_tail one other h g e = sym (parts-tail one h) ∙ ap parts_of e ∙ parts-tail other g
