-- The words of symbols that are laid out as words.
use Rattle.std.proofs.Common.{◌≡◌, ℕ, ◌<◌, true, false, cond, List, [], ◌∷◌, ◌++◌, Option, Some, None, Result, Ok, Err, length, refl, sym}
use Rattle.std.proofs.Common.{ap, ◌∙◌, arith, append-nil, length-append}
use Rattle.std.specs.Prelude.{◌==◌, IsTrue, is_some}
use Rattle.std.specs.List.{AllByRecursion, flat_map, slice_split, list_all}
use Rattle.std.specs.Str.{is_utf8}
use Rattle.std.proofs.lemmas.List.Elements.{All-from_recursion}
use Rattle.std.proofs.lemmas.List.Splits.{slice_split_none, slice_split_at}
use Rattle.std.proofs.lemmas.Bool.{eqb-true, eq-eqb, false_from_ne_true}
use Rattle.text_forms.specs.declared.error.WordsError.{WordsError}
use Rattle.text_forms.specs.declared.error.WordsError.TheVariants.{Quote}
use Rattle.text_forms.specs.declared.splitting.symbols.Symbol.{Symbol}
use Rattle.text_forms.specs.declared.splitting.symbols.Symbol.TheVariants.{Plain, Escaped}
use Rattle.text_forms.specs.declared.splitting.marks.Mark.{Mark}
use Rattle.text_forms.specs.declared.splitting.marks.Mark.TheVariants.{Part as PartOf, Edge, Gap}
use Rattle.text_forms.specs.Words.{is_white, is_quote, mark_of, open_after, marks_from, open_at_end, is_gap, bytes_of, words_between}
use Rattle.text_forms.specs.Words.{words_in, text_only, closed_only, words_by, words_of}
use Rattle.text_forms.specs.Grammar.{Part, bare, quoted, byte_of, IsNoEnd, IsPart, part_symbols, bytes_in, part_bytes, EndsWord, LaysOut}
use Rattle.text_forms.specs.Grammar.{nothing, white, word, Spells}
use Rattle.text_forms.proofs.Pieces.{made_of, all_text}
use Rattle.text_forms.proofs.Spelling.{spells_read}

marks-append : (opened : Option ℕ) (xs ys : List Symbol) → marks_from opened (xs ++ ys)
    ≡ marks_from opened xs ++ marks_from (open_at_end opened xs) ys
marks-append opened [] ys = refl
marks-append opened (x ∷ xs) ys = ap (λ rest. mark_of opened x ∷ rest) (marks-append (open_after opened x) xs ys)

open-append : (opened : Option ℕ) (xs ys : List Symbol) → open_at_end opened (xs ++ ys) ≡ open_at_end (open_at_end opened xs) ys
open-append opened [] ys = refl
open-append opened (x ∷ xs) ys = open-append (open_after opened x) xs ys

-- ---- a part of a word: no gap in it, its bytes, and no quote left open

part_marks : List Symbol → List Mark
part_marks [] = []
part_marks (symbol ∷ symbols) = PartOf (byte_of symbol) ∷ part_marks symbols

inside_mark : (quote : ℕ) (symbol : Symbol) → IsNoEnd quote symbol → mark_of (Some quote) symbol ≡ PartOf (byte_of symbol)
unfolding mark_of
inside_mark quote (Plain byte) h = ap (λ b. cond b Edge (PartOf byte)) (false_from_ne_true (byte == quote) (λ e. h (eqb-true byte quote e)))
inside_mark quote (Escaped byte) h = refl

inside_open : (quote : ℕ) (symbol : Symbol) → IsNoEnd quote symbol → open_after (Some quote) symbol ≡ Some quote
unfolding open_after
inside_open quote (Plain byte) h = ap (λ b. cond b None (Some quote)) (false_from_ne_true (byte == quote) (λ e. h (eqb-true byte quote e)))
inside_open quote (Escaped byte) h = refl

inside_marks : (quote : ℕ) (inside : List Symbol) → AllByRecursion (IsNoEnd quote) inside
    → marks_from (Some quote) inside ≡ part_marks inside
unfolding part_marks
inside_marks quote [] h = refl
inside_marks quote (symbol ∷ inside) h =
    ap (λ mark. mark ∷ marks_from (open_after (Some quote) symbol) inside) (inside_mark quote symbol h.0)
    ∙ ap (λ o. PartOf (byte_of symbol) ∷ marks_from o inside) (inside_open quote symbol h.0)
    ∙ ap (λ rest. PartOf (byte_of symbol) ∷ rest) (inside_marks quote inside h.1)

inside_stays : (quote : ℕ) (inside : List Symbol) → AllByRecursion (IsNoEnd quote) inside → open_at_end (Some quote) inside ≡ Some quote
inside_stays quote [] h = refl
inside_stays quote (symbol ∷ inside) h = ap (λ o. open_at_end o inside) (inside_open quote symbol h.0) ∙ inside_stays quote inside h.1

-- a quote is no white space
quote_dark : (quote : ℕ) → IsTrue (is_quote quote) → is_white quote ≡ false
quote_dark quote h = grind arith

end_mark : (quote : ℕ) → mark_of (Some quote) (Plain quote) ≡ Edge
unfolding mark_of
end_mark quote = ap (λ b. cond b Edge (PartOf quote)) (eq-eqb quote quote refl)

end_open : (quote : ℕ) → open_after (Some quote) (Plain quote) ≡ None
unfolding open_after
end_open quote = ap (λ b. cond b None (Some quote)) (eq-eqb quote quote refl)

marks_of_part : Part → List Mark
marks_of_part (bare symbol) = PartOf (byte_of symbol) ∷ []
marks_of_part (quoted quote inside) = Edge ∷ part_marks inside ++ Edge ∷ []

start_mark : (quote : ℕ) → IsTrue (is_quote quote) → mark_of None (Plain quote) ≡ Edge
unfolding mark_of
start_mark quote h = ap (λ b. cond b Gap (cond (is_quote quote) Edge (PartOf quote))) (quote_dark quote h)
    ∙ ap (λ b. cond b Edge (PartOf quote)) h

start_open : (quote : ℕ) → IsTrue (is_quote quote) → open_after None (Plain quote) ≡ Some quote
unfolding open_after
start_open quote h = ap (λ b. cond b (Some quote) None) h

bare_mark : (byte : ℕ) → (is_white byte ≡ false) × (is_quote byte ≡ false) → mark_of None (Plain byte) ≡ PartOf byte
unfolding mark_of
bare_mark byte h = ap (λ b. cond b Gap (cond (is_quote byte) Edge (PartOf byte))) h.0 ∙ ap (λ b. cond b Edge (PartOf byte)) h.1

bare_open : (byte : ℕ) → is_quote byte ≡ false → open_after None (Plain byte) ≡ None
unfolding open_after
bare_open byte h = ap (λ b. cond b (Some byte) None) h

part_seen : (part : Part) → IsPart part → marks_from None (part_symbols part) ≡ marks_of_part part
unfolding marks_of_part mark_of
part_seen (bare (Plain byte)) h = ap (λ mark. mark ∷ []) (bare_mark byte h)
part_seen (bare (Escaped byte)) h = refl
part_seen (quoted quote inside) h =
    ap (λ mark. mark ∷ marks_from (open_after None (Plain quote)) (inside ++ Plain quote ∷ [])) (start_mark quote h.0)
    ∙ ap (λ o. Edge ∷ marks_from o (inside ++ Plain quote ∷ [])) (start_open quote h.0)
    ∙ ap (λ rest. Edge ∷ rest) (marks-append (Some quote) inside (Plain quote ∷ []))
    ∙ ap (λ rest. Edge ∷ rest ++ marks_from (open_at_end (Some quote) inside) (Plain quote ∷ [])) (inside_marks quote inside h.1)
    ∙ ap (λ o. Edge ∷ part_marks inside ++ marks_from o (Plain quote ∷ [])) (inside_stays quote inside h.1)
    ∙ ap (λ mark. Edge ∷ part_marks inside ++ mark ∷ []) (end_mark quote)

part_closed : (part : Part) → IsPart part → open_at_end None (part_symbols part) ≡ None
unfolding open_after
part_closed (bare (Plain byte)) h = bare_open byte h.1
part_closed (bare (Escaped byte)) h = refl
part_closed (quoted quote inside) h =
    ap (λ o. open_at_end o (inside ++ Plain quote ∷ [])) (start_open quote h.0)
    ∙ open-append (Some quote) inside (Plain quote ∷ [])
    ∙ ap (λ o. open_at_end o (Plain quote ∷ [])) (inside_stays quote inside h.1)
    ∙ end_open quote

-- ---- a word

parts_seen : (parts : List Part) → AllByRecursion IsPart parts
    → marks_from None (flat_map part_symbols parts) ≡ flat_map marks_of_part parts
parts_seen [] h = refl
parts_seen (part ∷ parts) h =
    marks-append None (part_symbols part) (flat_map part_symbols parts)
    ∙ ap (λ front. front ++ marks_from (open_at_end None (part_symbols part)) (flat_map part_symbols parts)) (part_seen part h.0)
    ∙ ap (λ o. marks_of_part part ++ marks_from o (flat_map part_symbols parts)) (part_closed part h.0)
    ∙ ap (λ rest. marks_of_part part ++ rest) (parts_seen parts h.1)

parts_closed : (parts : List Part) → AllByRecursion IsPart parts → open_at_end None (flat_map part_symbols parts) ≡ None
parts_closed [] h = refl
parts_closed (part ∷ parts) h =
    open-append None (part_symbols part) (flat_map part_symbols parts)
    ∙ ap (λ o. open_at_end o (flat_map part_symbols parts)) (part_closed part h.0) ∙ parts_closed parts h.1

bytes-append : (xs ys : List Mark) → bytes_of (xs ++ ys) ≡ bytes_of xs ++ bytes_of ys
bytes-append [] ys = refl
bytes-append (PartOf byte ∷ xs) ys = ap (λ rest. byte ∷ rest) (bytes-append xs ys)
bytes-append (Edge ∷ xs) ys = bytes-append xs ys
bytes-append (Gap ∷ xs) ys = bytes-append xs ys

inside_bytes : (inside : List Symbol) → bytes_of (part_marks inside) ≡ bytes_in inside
unfolding part_marks
inside_bytes [] = refl
inside_bytes (symbol ∷ inside) = ap (λ rest. byte_of symbol ∷ rest) (inside_bytes inside)

part_said : (part : Part) → bytes_of (marks_of_part part) ≡ part_bytes part
unfolding marks_of_part
part_said (bare symbol) = refl
part_said (quoted quote inside) = bytes-append (part_marks inside) (Edge ∷ []) ∙ append-nil (bytes_of (part_marks inside))
    ∙ inside_bytes inside

parts_said : (parts : List Part) → bytes_of (flat_map marks_of_part parts) ≡ flat_map part_bytes parts
parts_said [] = refl
parts_said (part ∷ parts) =
    bytes-append (marks_of_part part) (flat_map marks_of_part parts)
    ∙ ap (λ front. front ++ bytes_of (flat_map marks_of_part parts)) (part_said part)
    ∙ ap (λ rest. part_bytes part ++ rest) (parts_said parts)

all_append : (xs ys : List Mark) → AllByRecursion (λ mark. is_gap mark ≡ false) xs → AllByRecursion (λ mark. is_gap mark ≡ false) ys
    → AllByRecursion (λ mark. is_gap mark ≡ false) (xs ++ ys)
all_append [] ys h g = g
all_append (x ∷ xs) ys h g = (h.0, all_append xs ys h.1 g)

inside_whole : (inside : List Symbol) → AllByRecursion (λ mark. is_gap mark ≡ false) (part_marks inside)
unfolding part_marks
inside_whole [] = tt
inside_whole (symbol ∷ inside) = (refl, inside_whole inside)

part_whole : (part : Part) → AllByRecursion (λ mark. is_gap mark ≡ false) (marks_of_part part)
unfolding marks_of_part
part_whole (bare symbol) = (refl, tt)
part_whole (quoted quote inside) = (refl, all_append (part_marks inside) (Edge ∷ []) (inside_whole inside) (refl, tt))

parts_whole : (parts : List Part) → AllByRecursion (λ mark. is_gap mark ≡ false) (flat_map marks_of_part parts)
parts_whole [] = tt
parts_whole (part ∷ parts) = all_append (marks_of_part part) (flat_map marks_of_part parts) (part_whole part) (parts_whole parts)

part_there : (part : Part) → 0 < length (marks_of_part part)
unfolding marks_of_part
part_there (bare symbol) = omega arith
part_there (quoted quote inside) = omega arith

-- ---- the whole

gap_seen : (byte : ℕ) → IsTrue (is_white byte) → mark_of None (Plain byte) ≡ Gap
unfolding mark_of
gap_seen byte h = ap (λ b. cond b Gap (cond (is_quote byte) Edge (PartOf byte))) h

pub gap_closed : (byte : ℕ) → IsTrue (is_white byte) → open_after None (Plain byte) ≡ None
gap_closed byte h = bare_open byte (dark byte h)
  where
    dark : (byte : ℕ) → IsTrue (is_white byte) → is_quote byte ≡ false
    dark byte h = grind arith

-- the words after white space are the words
behind_gap : (byte : ℕ) (symbols : List Symbol) → IsTrue (is_white byte)
    → words_in (marks_from None (Plain byte ∷ symbols)) ≡ words_in (marks_from None symbols)
unfolding words_in
behind_gap byte symbols h =
    ap (λ mark. words_in (mark ∷ marks_from (open_after None (Plain byte)) symbols)) (gap_seen byte h)
    ∙ ap (λ o. words_in (Gap ∷ marks_from o symbols)) (gap_closed byte h)

-- a word before white space or the end is the first of the words
in_front : (marks : List Mark) (rest : List Symbol) → AllByRecursion (λ mark. is_gap mark ≡ false) marks → 0 < length marks
    → EndsWord rest → words_in (marks ++ marks_from None rest) ≡ bytes_of marks ∷ words_in (marks_from None rest)
unfolding words_in
in_front marks [] clean there ends =
    ap words_in (append-nil marks)
    ∙ ap words_between (slice_split_none is_gap marks (All-from_recursion (λ mark. is_gap mark ≡ false) marks clean))
    ∙ made_of marks [] there
in_front marks (Plain byte ∷ rest) clean there ends =
    let seen : marks_from None (Plain byte ∷ rest) ≡ Gap ∷ marks_from (open_after None (Plain byte)) rest = ap (λ mark. mark ∷ marks_from (open_after None (Plain byte)) rest) (gap_seen byte ends) in
    let tail = marks_from (open_after None (Plain byte)) rest in
    ap (λ more. words_in (marks ++ more)) seen
    ∙ ap words_between (slice_split_at is_gap marks Gap tail (All-from_recursion (λ mark. is_gap mark ≡ false) marks clean) refl)
    ∙ made_of marks (slice_split is_gap tail) there
    ∙ ap (λ more. bytes_of marks ∷ words_in more) (sym seen)
in_front marks (Escaped byte ∷ rest) clean there ends = absurd ends

pub laid_closed : (symbols : List Symbol) (words : List (List ℕ)) → LaysOut symbols words → open_at_end None symbols ≡ None
laid_closed [] [] nothing = refl
laid_closed _ _ (white byte symbols words h more) = ap (λ o. open_at_end o symbols) (gap_closed byte h) ∙ laid_closed symbols words more
laid_closed _ _ (word part parts rest words good ends more) =
    open-append None (flat_map part_symbols (part ∷ parts)) rest ∙ ap (λ o. open_at_end o rest) (parts_closed (part ∷ parts) good)
    ∙ laid_closed rest words more

pub laid_words : (symbols : List Symbol) (words : List (List ℕ)) → LaysOut symbols words → words_in (marks_from None symbols) ≡ words
unfolding words_in
laid_words [] [] nothing = refl
laid_words _ _ (white byte symbols words h more) = behind_gap byte symbols h ∙ laid_words symbols words more
laid_words _ _ (word part parts rest words good ends more) =
    let seen = parts_seen (part ∷ parts) good in
    let marks = flat_map marks_of_part (part ∷ parts) in
    ap words_in (marks-append None (flat_map part_symbols (part ∷ parts)) rest)
    ∙ ap (λ front. words_in (front ++ marks_from (open_at_end None (flat_map part_symbols (part ∷ parts))) rest)) seen
    ∙ ap (λ o. words_in (marks ++ marks_from o rest)) (parts_closed (part ∷ parts) good)
    ∙ in_front marks rest (parts_whole (part ∷ parts)) (let some = part_there part in omega (arith, length-append (marks_of_part part) (flat_map marks_of_part parts))) ends
    ∙ ap (λ first. first ∷ words_in (marks_from None rest)) (parts_said (part ∷ parts))
    ∙ ap (λ more. flat_map part_bytes (part ∷ parts) ∷ more) (laid_words rest words more)

-- a text that follows the grammar is split as the grammar says
pub split_as_laid : (text : List ℕ) (symbols : List Symbol) (words : List (List ℕ)) → Spells symbols text → LaysOut symbols words
    → list_all is_utf8 words ≡ true → words_of text ≡ Ok words
unfolding words_of closed_only
split_as_laid text symbols words spelled laid good =
    ap words_by (spells_read symbols text spelled)
    ∙ ap (λ o. cond {A = Result (List (List ℕ)) WordsError} (is_some o) (Err Quote) (text_only (words_in (marks_from None symbols))))
    (laid_closed symbols words laid)
    ∙ ap text_only (laid_words symbols words laid) ∙ all_text words good
