-- A text in which nothing folds away is the text of its own path.
use Rattle.std.proofs.Common.{◌≡◌, ℕ, Bool, true, false, List, [], ◌∷◌, ◌++◌, filter, refl, sym, ap, ◌∙◌, subst, cond}
use Rattle.std.specs.Prelude.{◌==◌, ◌||◌, ◌&&◌, not, codes, nat_eq}
use Rattle.std.specs.List.{AllByRecursion, list_any, slice_split, onto_first, starts_with}
use Rattle.std.specs.Str.{bytes_eq}
use Rattle.std.proofs.lemmas.Bool.{and_parts, or_from, not-true, false≢true, eqb-true}
use Rattle.abs_path.specs.Paths.{tail_of, pieces_of, parts_of, is_idle}
use Rattle.abs_path.specs.Plain.{is_plain}

abbrev is_slash : ℕ → Bool
is_slash byte = byte == 47

-- a piece begins with a byte other than a dot
abbrev is_busy : List ℕ → Bool
is_busy [] = false
is_busy (byte ∷ piece) = not (byte == 46)

abbrev AreBusy : List (List ℕ) → Type 0
AreBusy pieces = AllByRecursion (λ piece. is_busy piece ≡ true) pieces

-- all pieces after the first are busy, and so is the first if a slash precedes it
abbrev AreBusyBehind : Bool → List (List ℕ) → Type 0
AreBusyBehind true pieces = AreBusy pieces
AreBusyBehind false [] = Unit {0}
AreBusyBehind false (piece ∷ pieces) = AreBusy pieces

-- the pieces of a text, each after a slash, are a slash and the text
pieces_whole : (text : List ℕ) → tail_of (slice_split is_slash text) ≡ 47 ∷ text
pieces_whole [] = refl
pieces_whole (x ∷ text) = by (is_slash x) refl (pieces_whole text)
  where
    onto : (pieces : List (List ℕ)) → tail_of pieces ≡ 47 ∷ text → tail_of (onto_first x pieces) ≡ 47 ∷ x ∷ text
    onto [] e = absurd (cc)
    onto (piece ∷ pieces) e = let more : piece ++ tail_of pieces ≡ text = cc in ap (λ l. 47 ∷ x ∷ l) more

    by : (b : Bool) → is_slash x ≡ b → tail_of (slice_split is_slash text) ≡ 47 ∷ text
        → tail_of (cond b ([] ∷ slice_split is_slash text) (onto_first x (slice_split is_slash text))) ≡ 47 ∷ x ∷ text
    by true e more = let same : x ≡ 47 = eqb-true x 47 e in cc
    by false e more = onto (slice_split is_slash text) more

busy_onto : (behind : Bool) (x : ℕ) (pieces : List (List ℕ)) → not (behind && (false || x == 46)) ≡ true → AreBusyBehind false pieces
    → AreBusyBehind behind (onto_first x pieces)
busy_onto true x [] h all = (h, tt)
busy_onto true x (piece ∷ pieces) h all = (h, all)
busy_onto false x [] h all = tt
busy_onto false x (piece ∷ pieces) h all = all

busy_pieces : (behind : Bool) (text : List ℕ) → is_plain behind text ≡ true → AreBusyBehind behind (slice_split is_slash text)
busy_pieces true [] h = absurd (false≢true h)
busy_pieces false [] h = tt
busy_pieces behind (x ∷ text) h =
    let both = and_parts _ _ (and_parts (not (x == 0)) _ h).1 in
    by behind (is_slash x) both.0 (busy_pieces (is_slash x) text both.1)
  where
    by : (behind b : Bool) → not (behind && (b || x == 46)) ≡ true → AreBusyBehind b (slice_split is_slash text)
        → AreBusyBehind behind (cond b ([] ∷ slice_split is_slash text) (onto_first x (slice_split is_slash text)))
    by true true h all = absurd (false≢true h)
    by false true h all = all
    by behind false h all = busy_onto behind x (slice_split is_slash text) h all

none_climbs : (pieces : List (List ℕ)) → AreBusy pieces → list_any (λ piece. bytes_eq piece (codes "..")) pieces ≡ false
none_climbs [] all = refl
none_climbs ([] ∷ pieces) all = absurd (false≢true all.0)
none_climbs ((x ∷ piece) ∷ pieces) all =
    let level : (x == 46) ≡ false = not-true (x == 46) all.0 in
    or_from _ _ (rw level refl) (none_climbs pieces all.1)

none_idle : (pieces : List (List ℕ)) → AreBusy pieces → filter (λ piece. not (is_idle piece)) pieces ≡ pieces
none_idle [] all = refl
none_idle ([] ∷ pieces) all = absurd (false≢true all.0)
none_idle ((x ∷ piece) ∷ pieces) all =
    let level : (x == 46) ≡ false = not-true (x == 46) all.0 in
    let more = none_idle pieces all.1 in
    rw level (ap (λ l. (x ∷ piece) ∷ l) more)

-- a plain text has no NUL
pub plain_clean : (behind : Bool) (text : List ℕ) → is_plain behind text ≡ true → list_any (λ byte. byte == 0) text ≡ false
plain_clean behind [] h = refl
plain_clean behind (x ∷ text) h =
    let both = and_parts (not (x == 0)) _ h in
    or_from _ _ (not-true (x == 0) both.0) (plain_clean (x == 47) text (and_parts _ _ both.1).1)

-- no part of a plain text is `..`
pub plain_level : (text : List ℕ) → starts_with nat_eq text (codes "/") ≡ true → is_plain false text ≡ true
    → list_any (λ piece. bytes_eq piece (codes "..")) (pieces_of text) ≡ false
plain_level [] rooted h = refl
plain_level (x ∷ text) rooted h =
    let first : 47 ≡ x = eqb-true 47 x (and_parts _ _ rooted).0 in
    subst (λ x. is_plain false (x ∷ text) ≡ true → list_any (λ piece. bytes_eq piece (codes "..")) (pieces_of (x ∷ text)) ≡ false) first
    (λ plain. none_climbs (slice_split is_slash text) (busy_pieces true text plain)) h

-- the parts of a plain text have its text
pub plain_whole : (text : List ℕ) → starts_with nat_eq text (codes "/") ≡ true → is_plain false text ≡ true → text ≡ tail_of (parts_of text)
plain_whole [] rooted h = refl
plain_whole (x ∷ text) rooted h =
    let first : 47 ≡ x = eqb-true 47 x (and_parts _ _ rooted).0 in
    subst (λ x. is_plain false (x ∷ text) ≡ true → x ∷ text ≡ tail_of (parts_of (x ∷ text))) first
    (λ plain. sym (ap tail_of (none_idle (slice_split is_slash text) (busy_pieces true text plain)) ∙ pieces_whole text)) h
