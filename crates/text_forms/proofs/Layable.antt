-- Symbols without an open quote at the end can be laid out as words.
use Rattle.std.proofs.Common.{◌≡◌, ℕ, Bool, true, false, cond, List, [], ◌∷◌, ◌++◌, Option, Some, None, Result, Ok, Err, refl, sym, ap, ◌∙◌}
use Rattle.std.proofs.Common.{subst, arith, append_assoc}
use Rattle.std.specs.Prelude.{◌==◌, IsTrue, is_some}
use Rattle.std.specs.List.{AllByRecursion, flat_map, list_all}
use Rattle.std.specs.Str.{is_utf8}
use Rattle.std.proofs.lemmas.Bool.{eqb-true, eqb-false, false≢true}
use Rattle.text_forms.specs.declared.error.WordsError.{WordsError}
use Rattle.text_forms.specs.declared.error.WordsError.TheVariants.{Escape, Quote, NotText}
use Rattle.text_forms.specs.declared.splitting.symbols.Symbol.{Symbol}
use Rattle.text_forms.specs.declared.splitting.symbols.Symbol.TheVariants.{Plain, Escaped}
use Rattle.text_forms.specs.Words.{is_white, is_quote, open_after, marks_from, open_at_end, words_in, text_only, closed_only, words_by}
use Rattle.text_forms.specs.Words.{words_of, symbols_of}
use Rattle.text_forms.specs.Grammar.{Part, bare, quoted, IsNoEnd, IsPart, part_symbols, part_bytes, EndsWord, LaysOut, nothing, white, word}
use Rattle.text_forms.specs.Grammar.{Spells}
use Rattle.text_forms.proofs.Spelling.{spells_from, spells_read}
use Rattle.text_forms.proofs.Layouts.{laid_closed, laid_words}

-- the parts of a word, and after them the end of the word and further words
record Begun (symbols : List Symbol) : Type 0 where
  parts : List Part
  rest : List Symbol
  words : List (List ℕ)
  whole : symbols ≡ flat_map part_symbols parts ++ rest
  good : AllByRecursion IsPart parts
  ends : EndsWord rest
  laid : LaysOut rest words

-- symbols up to a closing quote, and then the same
record Inside (quote : ℕ) (symbols : List Symbol) : Type 0 where
  inside : List Symbol
  rest : List Symbol
  whole : symbols ≡ inside ++ Plain quote ∷ rest
  good : AllByRecursion (IsNoEnd quote) inside
  begun : Begun rest

-- the symbols are laid out, with one more word if the word that has begun has a part
laid_from : (symbols : List Symbol) → Begun symbols → (words : List (List ℕ)) × LaysOut symbols words
laid_from symbols b = by b.parts b.whole b.good
  where
    by : (parts : List Part) → symbols ≡ flat_map part_symbols parts ++ b.rest → AllByRecursion IsPart parts
        → (words : List (List ℕ)) × LaysOut symbols words
    by [] whole good = (b.words, subst (λ (l : List Symbol). LaysOut l b.words) (sym whole) b.laid)
    by (part ∷ parts) whole good =
        (flat_map part_bytes (part ∷ parts) ∷ b.words, subst (λ (l : List Symbol). LaysOut l (flat_map part_bytes (part ∷ parts) ∷ b.words)) (sym whole) (word part parts b.rest b.words good b.ends b.laid))

-- one more part is in front
with_part : (part : Part) (symbols : List Symbol) → IsPart part → Begun symbols → Begun (part_symbols part ++ symbols)
with_part part symbols h b = record {
  parts = part ∷ b.parts;
  rest = b.rest;
  words = b.words;
  whole = ap (λ l. part_symbols part ++ l) b.whole ∙ sym (append_assoc (part_symbols part) (flat_map part_symbols b.parts) b.rest);
  good = (h, b.good);
  ends = b.ends;
  laid = b.laid;
}

-- white space ends the word
at_white : (byte : ℕ) (symbols : List Symbol) → IsTrue (is_white byte) → Begun symbols → Begun (Plain byte ∷ symbols)
at_white byte symbols h b = let more = laid_from symbols b in record {
  parts = [];
  rest = Plain byte ∷ symbols;
  words = more.0;
  whole = refl;
  good = tt;
  ends = h;
  laid = white byte symbols more.0 h more.1;
}

-- a quoted part
with_quoted : (quote : ℕ) (symbols : List Symbol) → IsTrue (is_quote quote) → Inside quote symbols → Begun (Plain quote ∷ symbols)
with_quoted quote symbols h i =
    let again : (Plain quote ∷ i.inside ++ Plain quote ∷ []) ++ i.rest ≡ Plain quote ∷ symbols =
    ap (λ l. Plain quote ∷ l) (append_assoc i.inside (Plain quote ∷ []) i.rest ∙ sym i.whole) in
    subst Begun again (with_part (quoted quote i.inside) i.rest (h, i.good) i.begun)

with_inside : (quote : ℕ) (symbol : Symbol) (symbols : List Symbol) → IsNoEnd quote symbol → Inside quote symbols
    → Inside quote (symbol ∷ symbols)
with_inside quote symbol symbols h i = record {
  inside = symbol ∷ i.inside;
  rest = i.rest;
  whole = ap (λ l. symbol ∷ l) i.whole;
  good = (h, i.good);
  begun = i.begun;
}

at_quote : (quote byte : ℕ) (symbols : List Symbol) → byte ≡ quote → Begun symbols → Inside quote (Plain byte ∷ symbols)
at_quote quote byte symbols same b = record { inside = []; rest = symbols; whole = ap (λ n. Plain n ∷ symbols) same; good = tt; begun = b }

-- a plain byte is in front, and no quote is open
begun_at : (byte : ℕ) (symbols : List Symbol) (white' quote' : Bool) → is_white byte ≡ white' → is_quote byte ≡ quote'
    → open_at_end (cond quote' (Some byte) None) symbols ≡ None →
    (open_at_end None symbols ≡ None → Begun symbols)
    → (open_at_end (Some byte) symbols ≡ None → IsTrue (is_quote byte) → Inside byte symbols) → Begun (Plain byte ∷ symbols)
begun_at byte symbols true true w q e outside within = absurd (false≢true (sym (dark byte w) ∙ q))
  where
    dark : (byte : ℕ) → is_white byte ≡ true → is_quote byte ≡ false
    dark byte h = grind arith
begun_at byte symbols true false w q e outside within = at_white byte symbols w (outside e)
begun_at byte symbols false true w q e outside within = with_quoted byte symbols q (within e q)
begun_at byte symbols false false w q e outside within = with_part (bare (Plain byte)) symbols (w, q) (outside e)

inside_at : (quote byte : ℕ) (symbols : List Symbol) (b : Bool) → (byte == quote) ≡ b
    → open_at_end (cond b None (Some quote)) symbols ≡ None →
    (open_at_end None symbols ≡ None → Begun symbols) → (open_at_end (Some quote) symbols ≡ None → Inside quote symbols)
    → Inside quote (Plain byte ∷ symbols)
inside_at quote byte symbols true is e outside within = at_quote quote byte symbols (eqb-true byte quote is) (outside e)
inside_at quote byte symbols false is e outside within = with_inside quote (Plain byte) symbols (eqb-false byte quote is) (within e)

mutual
  unfolding open_after

  begun : (symbols : List Symbol) → open_at_end None symbols ≡ None → Begun symbols
  begun [] e = record { parts = []; rest = []; words = []; whole = refl; good = tt; ends = tt; laid = nothing }
  begun (Plain byte ∷ symbols) e = begun_at byte symbols (is_white byte) (is_quote byte) refl refl e (begun symbols)
      (λ more h. within_quote byte symbols more)
  begun (Escaped byte ∷ symbols) e = with_part (bare (Escaped byte)) symbols tt (begun symbols e)

  within_quote : (quote : ℕ) (symbols : List Symbol) → open_at_end (Some quote) symbols ≡ None → Inside quote symbols
  within_quote quote [] e = absurd (cc)
  within_quote quote (Plain byte ∷ symbols) e = inside_at quote byte symbols (byte == quote) refl e (begun symbols)
      (within_quote quote symbols)
  within_quote quote (Escaped byte ∷ symbols) e = with_inside quote (Escaped byte) symbols tt (within_quote quote symbols e)

pub laid_where_closed : (symbols : List Symbol) → open_at_end None symbols ≡ None → (words : List (List ℕ)) × LaysOut symbols words
laid_where_closed symbols e = laid_from symbols (begun symbols e)

-- ---- the faults by the grammar

abbrev told_as : WordsError → Result (List (List ℕ)) WordsError
told_as fault = Err fault

abbrev split_as : List (List ℕ) → Result (List (List ℕ)) WordsError
split_as words = Ok words

closed_says : (symbols : List Symbol) (o : Option ℕ) → open_at_end None symbols ≡ o
    → closed_only symbols ≡ cond {A = Result (List (List ℕ)) WordsError} (is_some o) (Err Quote)
    (text_only (words_in (marks_from None symbols)))
unfolding closed_only
closed_says symbols o e =
    ap (λ o. cond {A = Result (List (List ℕ)) WordsError} (is_some o) (Err Quote) (text_only (words_in (marks_from None symbols)))) e

text_says : (words : List (List ℕ)) (b : Bool) → list_all is_utf8 words ≡ b
    → text_only words ≡ cond {A = Result (List (List ℕ)) WordsError} b (Ok words) (Err NotText)
unfolding text_only
text_says words b e = ap (λ b. cond {A = Result (List (List ℕ)) WordsError} b (Ok words) (Err NotText)) e

-- written symbols are never refused as an escape
no_escape : (symbols : List Symbol) → closed_only symbols ≡ Err Escape → ⊥
no_escape symbols h = by (open_at_end None symbols) refl
  where
    told : (b : Bool) → cond {A = Result (List (List ℕ)) WordsError} b (Ok (words_in (marks_from None symbols))) (Err NotText)
        ≡ Err Escape → ⊥
    told true e = cc
    told false e = cc

    by : (o : Option ℕ) → open_at_end None symbols ≡ o → ⊥
    by (Some quote) e = let k : told_as Quote ≡ told_as Escape = sym (closed_says symbols (Some quote) e) ∙ h in cc
    by None e = told (list_all is_utf8 (words_in (marks_from None symbols)))
        (sym (text_says (words_in (marks_from None symbols)) (list_all is_utf8 (words_in (marks_from None symbols))) refl)
        ∙ sym (closed_says symbols None e) ∙ h)

pub escape_exactly : (text : List ℕ) → (words_of text ≡ Err Escape → (symbols : List Symbol) → Spells symbols text → ⊥) ×
    (((symbols : List Symbol) → Spells symbols text → ⊥) → words_of text ≡ Err Escape)
unfolding words_of
escape_exactly text = (λ h symbols spelled. no_escape symbols (sym (ap words_by (spells_read symbols text spelled)) ∙ h), λ never. by never (symbols_of text) refl)
  where
    by : ((symbols : List Symbol) → Spells symbols text → ⊥) → (o : Option (List Symbol)) → symbols_of text ≡ o → words_of text ≡ Err Escape
    by never None e = ap words_by e
    by never (Some symbols) e = absurd (never symbols (spells_from text symbols e))

-- the words of a layout are returned as text or refused as no text
laid_says : (text : List ℕ) (symbols : List Symbol) (words : List (List ℕ)) → Spells symbols text → LaysOut symbols words
    → words_of text ≡ text_only words
unfolding words_of
laid_says text symbols words spelled laid = ap words_by (spells_read symbols text spelled)
    ∙ closed_says symbols None (laid_closed symbols words laid) ∙ ap text_only (laid_words symbols words laid)

no_quote : (words : List (List ℕ)) → text_only words ≡ Err Quote → ⊥
no_quote words h = by (list_all is_utf8 words) refl
  where
    by : (b : Bool) → list_all is_utf8 words ≡ b → ⊥
    by true e = let k : split_as words ≡ told_as Quote = sym (text_says words true e) ∙ h in cc
    by false e = let k : told_as NotText ≡ told_as Quote = sym (text_says words false e) ∙ h in cc

pub quote_exactly : (text : List ℕ) (symbols : List Symbol) → Spells symbols text →
    (words_of text ≡ Err Quote → (words : List (List ℕ)) → LaysOut symbols words → ⊥) ×
    (((words : List (List ℕ)) → LaysOut symbols words → ⊥) → words_of text ≡ Err Quote)
unfolding words_of
quote_exactly text symbols spelled =
    (λ h words laid. no_quote words (sym (laid_says text symbols words spelled laid) ∙ h), λ never. ap words_by (spells_read symbols text spelled) ∙ by never (open_at_end None symbols) refl)
  where
    by : ((words : List (List ℕ)) → LaysOut symbols words → ⊥) → (o : Option ℕ) → open_at_end None symbols ≡ o
        → closed_only symbols ≡ Err Quote
    by never (Some quote) e = closed_says symbols (Some quote) e
    by never None e = let found = laid_where_closed symbols e in absurd (never found.0 found.1)

pub not_text_exactly : (text : List ℕ) (symbols : List Symbol) (words : List (List ℕ)) → Spells symbols text → LaysOut symbols words →
    (words_of text ≡ Err NotText → list_all is_utf8 words ≡ false) × (list_all is_utf8 words ≡ false → words_of text ≡ Err NotText)
not_text_exactly text symbols words spelled laid =
    (λ h. by (list_all is_utf8 words) refl (sym (laid_says text symbols words spelled laid) ∙ h), λ bad. laid_says text symbols words spelled laid ∙ text_says words false bad)
  where
    by : (b : Bool) → list_all is_utf8 words ≡ b → text_only words ≡ Err NotText → list_all is_utf8 words ≡ false
    by true e h = let k : split_as words ≡ told_as NotText = sym (text_says words true e) ∙ h in absurd (cc)
    by false e h = e
