-- A text is read as a path.
use Rattle.std.proofs.Common.{◌≡◌, ℕ, zero, suc, ◌+◌, ◌≤◌, ◌<◌, Bool, true, false, cond, List, [], ◌∷◌, ◌++◌, filter, map, length, refl}
use Rattle.std.proofs.Common.{sym, ap, ◌∙◌, subst, append_assoc, length-append, arith, eqb, Option, Some, None, drop, take}
use Rattle.std.specs.Option.{option_and_then, option_map, IfSome}
use Rattle.std.proofs.Math.Seq.{take-append_seam, drop-append_seam}
use Rattle.std.proofs.lemmas.List.{take-append-drop}
use Rattle.std.specs.Prelude.{◌==◌, ◌||◌, not, codes, nat_eq, nat_lt}
use Rattle.std.specs.List.{AllByRecursion, list_any, slice_split, onto_first, starts_with}
use Rattle.std.specs.Str.{bytes_eq}
use Rattle.std.proofs.lemmas.Bool.{and_parts, and_from, or_parts, or_from, false≢true, not-true, eqb-true, eqb-false, le-ltb}
use Rattle.abs_path.specs.Paths.{Path, IsTail, tail_of, text_of, pieces_of, parts_of, is_part, is_idle, is_normal}
use Rattle.abs_path.specs.Prefix.{is_behind, behind_text, after, behind_only, rest_text, is_prefix, is_same, rest_of}
use denote.Ref.{Bor}
use Rattle.abs_path.specs.declared.error.PathError.TheVariants.{DotDot}
use Rattle.abs_path.specs.Prefix.{IsRest}
use Rattle.abs_path.specs.Read.{fault_of}
use Rattle.abs_path.proofs.Texts.{parts-tail, tail_pieces}
use Rattle.abs_path.proofs.Prefixes.{rest-append, rest_text-append, same_part, same_path, same_itself, part_itself, prefix_and_rest}
use Rattle.abs_path.proofs.ByteOrder.{tail-append}
use Rattle.std.proofs.lemmas.List.Splits.{length-slice_split}

abbrev is_slash : ℕ → Bool
is_slash byte = byte == 47

same_test : (one other : Bool) → (one ≡ true → other ≡ true) → (other ≡ true → one ≡ true) → one ≡ other
same_test true other h g = sym (h refl)
same_test false true h g = g refl
same_test false false h g = refl

none_pass : {X : Type 0} (test : X → Bool) (xs : List X) → list_any test xs ≡ false → AllByRecursion (λ x. test x ≡ false) xs
none_pass test [] h = tt
none_pass test (x ∷ xs) h = let both = or_parts (test x) (list_any test xs) h in (both.0, none_pass test xs both.1)

-- a byte is put in front of the first piece
onto_first_is : (test : ℕ → Bool) (x : ℕ) (pieces : List (List ℕ)) → test x ≡ false
    → AllByRecursion (λ piece. list_any test piece ≡ false) pieces
    → AllByRecursion (λ piece. list_any test piece ≡ false) (onto_first x pieces)
onto_first_is test x [] h all = (or_from _ _ h refl, tt)
onto_first_is test x (piece ∷ pieces) h all = (or_from _ _ h all.0, all.1)

-- a byte that the text lacks is in no piece
clean_pieces : (test : ℕ → Bool) (text : List ℕ) → list_any test text ≡ false
    → AllByRecursion (λ piece. list_any test piece ≡ false) (slice_split is_slash text)
clean_pieces test [] h = (refl, tt)
clean_pieces test (x ∷ text) h = let both = or_parts (test x) (list_any test text) h in by (is_slash x) both.0 (clean_pieces test text both.1)
  where
    by : (b : Bool) → test x ≡ false → AllByRecursion (λ piece. list_any test piece ≡ false) (slice_split is_slash text) →
        AllByRecursion (λ piece. list_any test piece ≡ false)
        (cond b ([] ∷ slice_split is_slash text) (onto_first x (slice_split is_slash text)))
    by true h all = (refl, all)
    by false h all = onto_first_is test x (slice_split is_slash text) h all

-- no piece has a slash
slashless : (text : List ℕ) → AllByRecursion (λ piece. list_any is_slash piece ≡ false) (slice_split is_slash text)
slashless [] = (refl, tt)
slashless (x ∷ text) = by (is_slash x) refl (slashless text)
  where
    by : (b : Bool) → is_slash x ≡ b → AllByRecursion (λ piece. list_any is_slash piece ≡ false) (slice_split is_slash text) →
        AllByRecursion (λ piece. list_any is_slash piece ≡ false)
        (cond b ([] ∷ slice_split is_slash text) (onto_first x (slice_split is_slash text)))
    by true e all = (refl, all)
    by false e all = onto_first_is is_slash x (slice_split is_slash text) e all

-- the pieces that are not idle are parts
parts_from : (pieces : List (List ℕ)) → AllByRecursion (λ piece. list_any is_slash piece ≡ false) pieces
    → AllByRecursion (λ piece. list_any (λ byte. byte == 0) piece ≡ false) pieces →
    AllByRecursion (λ piece. bytes_eq piece (codes "..") ≡ false) pieces → is_normal (filter (λ piece. not (is_idle piece)) pieces) ≡ true
parts_from [] h g k = refl
parts_from (piece ∷ pieces) h g k = by (not (is_idle piece)) refl (parts_from pieces h.1 g.1 k.1)
  where
    by : (b : Bool) → not (is_idle piece) ≡ b → is_normal (filter (λ piece. not (is_idle piece)) pieces) ≡ true →
        is_normal (cond b (piece ∷ filter (λ piece. not (is_idle piece)) pieces) (filter (λ piece. not (is_idle piece)) pieces)) ≡ true
    by true e more = and_from _ _ (and_from _ _ (and_from _ _ (ap not h.0) (ap not g.0)) (and_from _ _ e (ap not k.0))) more
    by false e more = more

-- with each piece after a slash, the text is one byte longer
length_pieces : (text : List ℕ) → length (tail_of (slice_split is_slash text)) ≡ length text + 1
length_pieces [] = refl
length_pieces (x ∷ text) = by (is_slash x) (length_pieces text)
  where
    onto : (pieces : List (List ℕ)) → 0 < length pieces → length (tail_of (onto_first x pieces)) ≡ length (tail_of pieces) + 1
    onto [] h = absurd (omega arith)
    onto (piece ∷ pieces) h = omega arith

    some : (text : List ℕ) → 0 < length (slice_split is_slash text)
    some text = omega (arith, length-slice_split is_slash text)

    by : (b : Bool) → length (tail_of (slice_split is_slash text)) ≡ length text + 1 →
        length (tail_of (cond b ([] ∷ slice_split is_slash text) (onto_first x (slice_split is_slash text)))) ≡ length (x ∷ text) + 1
    by true e = omega arith
    by false e = omega (arith, onto (slice_split is_slash text) (some text))

shorter : (pieces : List (List ℕ)) → length (tail_of (filter (λ piece. not (is_idle piece)) pieces)) ≤ length (tail_of pieces)
shorter [] = omega arith
shorter (piece ∷ pieces) = by (not (is_idle piece)) (shorter pieces)
  where
    by : (b : Bool) → length (tail_of (filter (λ piece. not (is_idle piece)) pieces)) ≤ length (tail_of pieces) →
        length (tail_of (cond b (piece ∷ filter (λ piece. not (is_idle piece)) pieces) (filter (λ piece. not (is_idle piece)) pieces))) ≤
        length (tail_of (piece ∷ pieces))
    by true more = omega (arith, length-append piece (tail_of (filter (λ piece. not (is_idle piece)) pieces)), length-append piece (tail_of pieces))
    by false more = omega (arith, length-append piece (tail_of pieces))

-- the folded text is no longer than the text that was read
folded_length : (text : List ℕ) → starts_with nat_eq text (codes "/") ≡ true → length (tail_of (parts_of text)) ≤ length text
folded_length [] h = omega arith
folded_length (x ∷ text) h = by (is_slash x) refl (and_parts _ _ h).0
  where
    by : (b : Bool) → is_slash x ≡ b → eqb 47 x ≡ true → length
        (tail_of (filter (λ piece. not (is_idle piece))
        (cond b ([] ∷ slice_split is_slash text) (onto_first x (slice_split is_slash text))))) ≤ length (x ∷ text)
    by true e same = omega (arith, shorter (slice_split is_slash text), length_pieces text)
    by false e same = absurd (eqb-false x 47 e (sym (eqb-true 47 x same)))

-- the text of a normal path is a tail if it is short
pub is_tail : (path : Path) → is_normal path ≡ true → length (tail_of path) ≤ 512 → IsTail (tail_of path)
is_tail path h short = record {
  normal = ap is_normal (parts-tail path h) ∙ h;
  whole = ap tail_of (parts-tail path h);
  short = short;
}

pub reads_normal : (text : List ℕ) → list_any (λ byte. byte == 0) text ≡ false
    → list_any (λ piece. bytes_eq piece (codes "..")) (pieces_of text) ≡ false → is_normal (parts_of text) ≡ true
reads_normal text clean level = parts_from (pieces_of text) (slashless text) (clean_pieces (λ byte. byte == 0) text clean)
    (none_pass (λ piece. bytes_eq piece (codes "..")) (pieces_of text) level)

-- ---- the rest after a prefix

behind_tail : (path : Path) → is_behind (tail_of path) ≡ true
behind_tail [] = refl
behind_tail (part ∷ path) = refl

-- equal texts have equal fronts and rests, if the fronts have no slash and the rests are empty or begin with one
same_front : (xs ys us vs : List ℕ) → list_any is_slash xs ≡ false → list_any is_slash ys ≡ false → is_behind us ≡ true
    → is_behind vs ≡ true → xs ++ us ≡ ys ++ vs → (xs ≡ ys) × (us ≡ vs)
same_front [] [] us vs h g p q e = (refl, e)
same_front [] (y ∷ ys) us vs h g p q e = let front = or_parts (is_slash y) (list_any is_slash ys) g in absurd (false≢true (sym front.0 ∙ subst (λ (l : List ℕ). is_behind l ≡ true) e p))
same_front (x ∷ xs) [] us vs h g p q e = let front = or_parts (is_slash x) (list_any is_slash xs) h in absurd (false≢true (sym front.0 ∙ subst (λ (l : List ℕ). is_behind l ≡ true) (sym e) q))
same_front (x ∷ xs) (y ∷ ys) us vs h g p q e =
    let tails : xs ++ us ≡ ys ++ vs = cc in
    let heads : x ≡ y = cc in
    let more = same_front xs ys us vs (or_parts (is_slash x) (list_any is_slash xs) h).1 (or_parts (is_slash y) (list_any is_slash ys) g).1 p q tails in
    let first = more.0 in
    ((cc), more.1)

part_slashless : (part : List ℕ) → is_part part ≡ true → list_any is_slash part ≡ false
part_slashless part h = not-true _ (and_parts _ _ (and_parts _ _ h).0).0

behind_both : (front : Path) (rest : List ℕ) → is_behind rest ≡ true → is_behind (tail_of front ++ rest) ≡ true
behind_both [] rest h = h
behind_both (part ∷ front) rest h = refl

-- if a path's text continues another's, the path continues the other
pub goes_on_behind : (front path : Path) (rest : List ℕ) → is_normal front ≡ true → is_normal path ≡ true → is_behind rest ≡ true
    → tail_of path ≡ tail_of front ++ rest →
    (is_prefix front path ≡ true) × (rest ≡ tail_of (rest_of front path))
goes_on_behind [] path rest h g behind e = (refl, sym e)
goes_on_behind (part ∷ front) [] rest h g behind e = absurd (cc)
goes_on_behind (part ∷ front) (first ∷ path) rest h g behind e =
    let one = and_parts (is_part part) (is_normal front) h in
    let other = and_parts (is_part first) (is_normal path) g in
    let whole : 47 ∷ (first ++ tail_of path) ≡ 47 ∷ (part ++ (tail_of front ++ rest)) = e ∙ ap (λ l. 47 ∷ l) (append_assoc part (tail_of front) rest) in
    let rests : first ++ tail_of path ≡ part ++ (tail_of front ++ rest) = cc in
    let both = same_front first part (tail_of path) (tail_of front ++ rest) (part_slashless first other.0) (part_slashless part one.0) (behind_tail path) (behind_both front rest behind) rests in
    let more = goes_on_behind front path rest one.1 other.1 behind both.1 in
    (and_from _ _ (part_itself part first (sym both.0)) more.0, more.1)

-- if a path leads to another, the text of the other continues its text
pub prefix_behind : (front path : Path) → is_prefix front path ≡ true → tail_of path ≡ tail_of front ++ tail_of (rest_of front path)
prefix_behind front path h = ap tail_of (sym (prefix_and_rest front path h)) ∙ tail-append front (rest_of front path)

after-append : (front rest : List ℕ) → after front (front ++ rest) ≡ Some rest
after-append front rest =
    ap (λ l. cond (bytes_eq front l) (Some (drop (length front) (front ++ rest))) None) (take-append_seam front rest)
    ∙ ap (λ b. cond b (Some (drop (length front) (front ++ rest))) None) (part_itself front front refl)
    ∙ ap Some (drop-append_seam front rest)

begins : (front text : List ℕ) → starts_with nat_eq text front ≡ true → text ≡ front ++ drop (length front) text
begins front text h = sym (take-append-drop (length front) text)
    ∙ ap (λ l. l ++ drop (length front) text) (sym (same_part front (take (length front) text) h))

pub rest_text_is : (front path : Path) → is_normal front ≡ true → is_normal path ≡ true
    → behind_text (tail_of front) (tail_of path) ≡ rest_text front path
rest_text_is front path h g = by (is_prefix front path) refl
  where
    not_after : (b : Bool) → starts_with nat_eq (tail_of path) (tail_of front) ≡ b → is_prefix front path ≡ false
        → option_and_then behind_only (cond b (Some (drop (length (tail_of front)) (tail_of path))) None) ≡ None
    not_after false e leads = refl
    not_after true e leads = cut (is_behind (drop (length (tail_of front)) (tail_of path))) refl
      where
        cut : (b : Bool) → is_behind (drop (length (tail_of front)) (tail_of path)) ≡ b
            → cond b (Some (drop (length (tail_of front)) (tail_of path))) None ≡ None
        cut false k = refl
        cut true k = absurd (false≢true
            (sym leads ∙ (goes_on_behind front path (drop (length (tail_of front)) (tail_of path)) h g k
            (begins (tail_of front) (tail_of path) e)).0))

    by : (b : Bool) → is_prefix front path ≡ b → behind_text (tail_of front) (tail_of path)
        ≡ cond b (Some (tail_of (rest_of front path))) None
    by true e = ap (behind_text (tail_of front)) (prefix_behind front path e)
        ∙ ap (option_and_then behind_only) (after-append (tail_of front) (tail_of (rest_of front path)))
        ∙ ap (λ b. cond b (Some (tail_of (rest_of front path))) None) (behind_tail (rest_of front path))
    by false e = not_after (starts_with nat_eq (tail_of path) (tail_of front)) refl e

-- ---- the properties of a value

pub rest_is : (one other : List ℕ) (front path : Path) → IsTail one → IsTail other → parts_of one ≡ front → parts_of other ≡ path
    → behind_text one other ≡ rest_text front path
rest_is one other front path h g p q =
    ap (λ l. behind_text l other) (sym h.whole) ∙ ap (behind_text (tail_of (parts_of one))) (sym g.whole)
    ∙ rest_text_is (parts_of one) (parts_of other) h.normal g.normal
    ∙ ap (λ l. rest_text l (parts_of other)) p ∙ ap (rest_text front) q

pub same_is : (one other : List ℕ) (front path : Path) → IsTail one → IsTail other → parts_of one ≡ front → parts_of other ≡ path
    → bytes_eq one other ≡ is_same front path
same_is one other front path h g p q = same_test (bytes_eq one other) (is_same front path) there back
  where
    there : bytes_eq one other ≡ true → is_same front path ≡ true
    there e = subst (λ (l : Path). is_same front l ≡ true) (sym p ∙ ap parts_of (same_part one other e) ∙ q) (same_itself front)

    back : is_same front path ≡ true → bytes_eq one other ≡ true
    back e = part_itself one other (sym h.whole ∙ ap tail_of (p ∙ same_path front path e ∙ sym q) ∙ g.whole)

normal-append : (one other : Path) → is_normal one ≡ true → is_normal other ≡ true → is_normal (one ++ other) ≡ true
normal-append [] other h g = g
normal-append (part ∷ one) other h g = let both = and_parts (is_part part) (is_normal one) h in and_from _ _ both.0 (normal-append one other both.1 g)

pub joined_text : (text rest : List ℕ) → IsTail text → IsRest rest → tail_of (parts_of text ++ parts_of rest) ≡ text ++ rest
joined_text text rest h g = tail-append (parts_of text) (parts_of rest) ∙ ap (λ l. l ++ tail_of (parts_of rest)) h.whole
    ∙ ap (λ l. text ++ l) g.whole

pub joined_is : (text rest : List ℕ) → IsTail text → IsRest rest → length text + length rest ≤ 512 → IsTail (text ++ rest)
joined_is text rest h g short = subst IsTail (joined_text text rest h g)
    (is_tail (parts_of text ++ parts_of rest) (normal-append (parts_of text) (parts_of rest) h.normal g.parts)
    (rw joined_text (omega (arith, length-append text rest))))

pub joined_parts : (text rest : List ℕ) → IsTail text → IsRest rest → parts_of (text ++ rest) ≡ parts_of text ++ parts_of rest
joined_parts text rest h g = ap parts_of (sym (joined_text text rest h g))
    ∙ parts-tail (parts_of text ++ parts_of rest) (normal-append (parts_of text) (parts_of rest) h.normal g.parts)

any_mapped : {X : Type 0} (f : X → List ℕ) (test : List ℕ → Bool) (xs : List X) → list_any test (map f xs) ≡ list_any (λ x. test (f x)) xs
any_mapped f test [] = refl
any_mapped f test (x ∷ xs) = ap (λ b. test (f x) || b) (any_mapped f test xs)

abbrev climbs : List ℕ → Bool
climbs piece = bytes_eq piece (codes "..")

-- the collected pieces show whether one climbs
pub climbs_is : (text : List ℕ) (items found : List (Bor (List ℕ))) (b : Bool) → found ≡ items
    → map (λ piece. piece.now) items ≡ pieces_of text → b ≡ list_any (λ piece. climbs piece.now) found
    → list_any climbs (pieces_of text) ≡ b
climbs_is text items found b same e h = sym (h ∙ sym (any_mapped (λ piece. piece.now) climbs found)
    ∙ ap (λ l. list_any climbs (map (λ piece. piece.now) l)) same ∙ ap (list_any climbs) e)

-- the text that was folded from the collected pieces
pub folded_is : (text tail : List ℕ) (items found : List (Bor (List ℕ))) → found ≡ items → map (λ piece. piece.now) items ≡ pieces_of text →
    tail ≡ tail_of (filter (λ piece. not (is_idle piece)) (map (λ piece. piece.now) found)) → tail ≡ tail_of (parts_of text)
folded_is text tail items found same e h = h ∙ ap (λ l. tail_of (filter (λ piece. not (is_idle piece)) (map (λ piece. piece.now) l))) same
    ∙ ap (λ l. tail_of (filter (λ piece. not (is_idle piece)) l)) e

-- a text has no fault if none of the four faults holds
pub no_fault : (text : List ℕ) → length text ≤ 512 → list_any (λ byte. byte == 0) text ≡ false
    → starts_with nat_eq text (codes "/") ≡ true → list_any climbs (pieces_of text) ≡ false → fault_of text ≡ None
no_fault text short clean rooted level = let small : nat_lt 512 (length text) ≡ false = le-ltb 512 (length text) short in rw (small, clean, rooted, level)

pub climbs_fault : (text : List ℕ) → length text ≤ 512 → list_any (λ byte. byte == 0) text ≡ false
    → starts_with nat_eq text (codes "/") ≡ true → list_any climbs (pieces_of text) ≡ true → fault_of text ≡ Some DotDot
climbs_fault text short clean rooted level = let small : nat_lt 512 (length text) ≡ false = le-ltb 512 (length text) short in rw (small, clean, rooted, level)

-- the folded text is the text of a path
pub read_is : (text tail : List ℕ) → length text ≤ 512 → list_any (λ byte. byte == 0) text ≡ false
    → starts_with nat_eq text (codes "/") ≡ true → list_any climbs (pieces_of text) ≡ false → tail ≡ tail_of (parts_of text) → IsTail tail
read_is text tail short clean rooted level e = subst IsTail (sym e)
    (is_tail (parts_of text) (reads_normal text clean level) (omega (arith, folded_length text rooted)))

pub read_parts : (text tail : List ℕ) → list_any (λ byte. byte == 0) text ≡ false → list_any climbs (pieces_of text) ≡ false
    → tail ≡ tail_of (parts_of text) → parts_of tail ≡ parts_of text
read_parts text tail clean level e = ap parts_of e ∙ parts-tail (parts_of text) (reads_normal text clean level)

pub joined_length : (text rest : List ℕ) (path : Path) → IsTail text → IsRest rest → parts_of text ≡ path
    → length (tail_of (path ++ parts_of rest)) ≡ length text + length rest
joined_length text rest path h g e = subst (λ (p : Path). length (tail_of (p ++ parts_of rest)) ≡ length text + length rest) e
    (ap length (joined_text text rest h g) ∙ length-append text rest)

normal-drop : (n : ℕ) (path : Path) → is_normal path ≡ true → is_normal (drop n path) ≡ true
normal-drop zero path h = h
normal-drop (suc n) [] h = refl
normal-drop (suc n) (part ∷ path) h = normal-drop n path (and_parts (is_part part) (is_normal path) h).1

is_rest : (path : Path) → is_normal path ≡ true → IsRest (tail_of path)
is_rest path h = record { parts = ap is_normal (parts-tail path h) ∙ h; whole = ap tail_of (parts-tail path h) }

-- the rest after a prefix of a normal path may be joined
pub rest_form : (front path : Path) (r : Option (Bor (List ℕ))) → is_normal path ≡ true
    → option_map (λ rest. rest.now) r ≡ rest_text front path → IfSome r (λ rest. IsRest rest.now)
rest_form front path None h e = tt
rest_form front path (Some rest) h e = by (is_prefix front path) e
  where
    by : (b : Bool) → Some rest.now ≡ cond b (Some (tail_of (rest_of front path))) None → IsRest rest.now
    by true e = let same : tail_of (rest_of front path) ≡ rest.now = cc in subst IsRest same (is_rest (rest_of front path) (normal-drop (length front) path h))
    by false e = absurd (cc)

-- the parts of the rest of a path after a front
pub rest_parts : (front path : Path) (r : Option (Bor (List ℕ))) → is_normal path ≡ true
    → option_map (λ rest. rest.now) r ≡ rest_text front path → IfSome r (λ rest. parts_of rest.now ≡ rest_of front path)
rest_parts front path None h e = tt
rest_parts front path (Some rest) h e = by (is_prefix front path) e
  where
    by : (b : Bool) → Some rest.now ≡ cond b (Some (tail_of (rest_of front path))) None → parts_of rest.now ≡ rest_of front path
    by true e = let same : tail_of (rest_of front path) ≡ rest.now = cc in ap parts_of (sym same) ∙ parts-tail (rest_of front path) (normal-drop (length front) path h)
    by false e = absurd (cc)

-- the text of a path is read back
pub text_parts : (path : Path) → is_normal path ≡ true → parts_of (text_of path) ≡ path
text_parts [] h = refl
text_parts (part ∷ path) h = parts-tail (part ∷ path) h

none_climbs : (path : Path) → is_normal path ≡ true → list_any climbs path ≡ false
none_climbs [] h = refl
none_climbs (part ∷ path) h =
    let both = and_parts (is_part part) (is_normal path) h in
    or_from _ _ (not-true _ (and_parts _ _ (and_parts _ _ both.0).1).1) (none_climbs path both.1)

any-append : (test : ℕ → Bool) (xs ys : List ℕ) → list_any test xs ≡ false → list_any test ys ≡ false → list_any test (xs ++ ys) ≡ false
any-append test [] ys h g = g
any-append test (x ∷ xs) ys h g = let both = or_parts (test x) (list_any test xs) h in or_from _ _ both.0 (any-append test xs ys both.1 g)

no_nul : (path : Path) → is_normal path ≡ true → list_any (λ byte. byte == 0) (tail_of path) ≡ false
no_nul [] h = refl
no_nul (part ∷ path) h =
    let both = and_parts (is_part part) (is_normal path) h in
    any-append (λ byte. byte == 0) part (tail_of path) (not-true _ (and_parts _ _ (and_parts _ _ both.0).0).1) (no_nul path both.1)

pub text_no_fault : (path : Path) → is_normal path ≡ true → length (text_of path) ≤ 512 → fault_of (text_of path) ≡ None
text_no_fault [] h short = refl
text_no_fault (part ∷ path) h short =
    no_fault (tail_of (part ∷ path)) short (no_nul (part ∷ path) h) refl
    (ap (list_any climbs) (tail_pieces (part ∷ path) h) ∙ none_climbs (part ∷ path) h)

-- taking a rest and joining it undo each other
pub rest_then_join : (front path : Path) (rest : List ℕ) → is_normal path ≡ true → rest_text front path ≡ Some rest
    → front ++ parts_of rest ≡ path
rest_then_join front path rest h e = by (is_prefix front path) refl e
  where
    by : (b : Bool) → is_prefix front path ≡ b → cond b (Some (tail_of (rest_of front path))) None ≡ Some rest
        → front ++ parts_of rest ≡ path
    by true leads e =
        let same : tail_of (rest_of front path) ≡ rest = cc in
        ap (λ l. front ++ parts_of l) (sym same) ∙ ap (λ p. front ++ p)
        (parts-tail (rest_of front path) (normal-drop (length front) path h)) ∙ prefix_and_rest front path leads
    by false leads e = absurd (cc)

pub join_then_rest : (front : Path) (rest : List ℕ) → IsRest rest → rest_text front (front ++ parts_of rest) ≡ Some rest
join_then_rest front rest h = rest_text-append front (parts_of rest) ∙ ap Some h.whole

-- the same holds of a text
pub parts_behind : (front path : Path) (rest : List ℕ) → is_normal path ≡ true → rest_text front path ≡ Some rest
    → parts_of rest ≡ rest_of front path
parts_behind front path rest normal e = sym (rest-append front (parts_of rest))
    ∙ ap (rest_of front) (rest_then_join front path rest normal e)
