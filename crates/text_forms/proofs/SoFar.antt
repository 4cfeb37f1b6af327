-- A text that has been split up to some symbol continues with the next one.
use Rattle.std.proofs.Common.{◌≡◌, ℕ, true, false, cond, List, [], ◌∷◌, ◌++◌, map, Option, Some, None, Result, Ok, Err, length, refl, sym}
use Rattle.std.proofs.Common.{ap, ◌∙◌, subst, append-nil, append_assoc, arith}
use Rattle.std.specs.Prelude.{is_some, unwrap_or, Vec, String, string_bytes}
use Rattle.std.specs.declared.alloc.Global.{Global}
use Rattle.std.specs.List.{cons_option, list_all, onto_first, slice_split}
use Rattle.std.specs.Str.{is_utf8}
use Rattle.std.specs.Option.{ok_or}
use Rattle.std.specs.Result.{OnOk}
use Rattle.std.specs.declared.alloc.AllocError.{AllocError}
use Rattle.std.proofs.Math.Logic.{∥∥₁_elim}
use Rattle.std.proofs.Math.Bool.{Bool-set}
use Rattle.std.proofs.lemmas.Bool.{and_from}
use Rattle.std.proofs.lemmas.Str.{is_utf8-from_IsUtf8}
use Rattle.text_forms.specs.declared.error.WordsError.{WordsError}
use Rattle.text_forms.specs.declared.error.WordsError.TheVariants.{Quote, NotText}
use Rattle.text_forms.specs.declared.splitting.SoFar.{SoFar}
use Rattle.text_forms.specs.declared.splitting.symbols.Symbol.{Symbol}
use Rattle.text_forms.specs.declared.splitting.marks.Mark.{Mark}
use Rattle.text_forms.specs.declared.splitting.marks.Mark.TheVariants.{Part, Edge, Gap}
use Rattle.text_forms.specs.Words.{mark_of, open_after, marks_from, open_at_end, is_gap, bytes_of, words_between, words_in, text_only}
use Rattle.text_forms.specs.Words.{closed_only, words_by, words_of, symbols_of}
use Rattle.text_forms.specs.Answers.{MakesWords}
use Rattle.text_forms.specs.SoFar.{begun_bytes, marks_of, found, comes_to, splits_on}
use Rattle.text_forms.proofs.Pieces.{all_text, no_text}

-- ---- a word that has begun, before the remaining marks

-- the words of pieces, the first of which continues a word of these bytes
behind : List ℕ → List (List Mark) → List (List ℕ)
behind bytes [] = bytes ∷ []
behind bytes (piece ∷ pieces) = (bytes ++ bytes_of piece) ∷ words_between pieces

behind_part : (bytes : List ℕ) (byte : ℕ) (pieces : List (List Mark))
    → behind bytes (onto_first (Part byte) pieces) ≡ behind (bytes ++ byte ∷ []) pieces
unfolding behind
behind_part bytes byte [] = refl
behind_part bytes byte (piece ∷ pieces) = ap (λ word. word ∷ words_between pieces) (sym (append_assoc bytes (byte ∷ []) (bytes_of piece)))

behind_edge : (bytes : List ℕ) (pieces : List (List Mark)) → behind bytes (onto_first Edge pieces) ≡ behind bytes pieces
unfolding behind
behind_edge bytes [] = ap (λ word. word ∷ []) (append-nil bytes)
behind_edge bytes (piece ∷ pieces) = refl

behind_parts : (front bytes : List ℕ) (marks : List Mark) → behind front (slice_split is_gap (map Part bytes ++ marks))
    ≡ behind (front ++ bytes) (slice_split is_gap marks)
behind_parts front [] marks = ap (λ bytes. behind bytes (slice_split is_gap marks)) (sym (append-nil front))
behind_parts front (byte ∷ bytes) marks =
    behind_part front byte (slice_split is_gap (map Part bytes ++ marks))
    ∙ behind_parts (front ++ byte ∷ []) bytes marks
    ∙ ap (λ all. behind all (slice_split is_gap marks)) (append_assoc front (byte ∷ []) bytes)

begins : (pieces : List (List Mark)) → words_between (onto_first Edge pieces) ≡ behind [] pieces
unfolding behind
begins [] = refl
begins (piece ∷ pieces) = refl

begins_with : (byte : ℕ) (pieces : List (List Mark)) → words_between (onto_first (Part byte) pieces) ≡ behind (byte ∷ []) pieces
unfolding behind
begins_with byte [] = refl
begins_with byte (piece ∷ pieces) = refl

begun : (bytes : List ℕ) (marks : List Mark) → words_in (marks_of (Some bytes) ++ marks) ≡ behind bytes (slice_split is_gap marks)
unfolding words_in
begun bytes marks = begins (slice_split is_gap (map Part bytes ++ marks)) ∙ behind_parts [] bytes marks

part_next : (old : Option (List ℕ)) (byte : ℕ) (marks : List Mark)
    → words_in (marks_of (Some (unwrap_or old [] ++ byte ∷ [])) ++ marks) ≡ words_in (marks_of old ++ Part byte ∷ marks)
unfolding words_in
part_next None byte marks = begun (byte ∷ []) marks ∙ sym (begins_with byte (slice_split is_gap marks))
part_next (Some bytes) byte marks =
    begun (bytes ++ byte ∷ []) marks ∙ sym (behind_part bytes byte (slice_split is_gap marks)) ∙ sym (begun bytes (Part byte ∷ marks))

edge_next : (old : Option (List ℕ)) (marks : List Mark) → words_in (marks_of (Some (unwrap_or old [])) ++ marks)
    ≡ words_in (marks_of old ++ Edge ∷ marks)
edge_next None marks = refl
edge_next (Some bytes) marks = begun bytes marks ∙ sym (behind_edge bytes (slice_split is_gap marks)) ∙ sym (begun bytes (Edge ∷ marks))

gap_next : (old : Option (List ℕ)) (marks : List Mark) → cons_option old (words_in marks) ≡ words_in (marks_of old ++ Gap ∷ marks)
unfolding words_in behind
gap_next None marks = refl
gap_next (Some bytes) marks = ap (λ word. word ∷ words_between (slice_split is_gap marks)) (sym (append-nil bytes))
    ∙ sym (begun bytes (Gap ∷ marks))

none_left : (old : Option (List ℕ)) → words_in (marks_of old ++ []) ≡ cons_option old []
unfolding words_in behind
none_left None = refl
none_left (Some bytes) = begun bytes [] ∙ ap (λ word. word ∷ []) (append-nil bytes)

-- ---- one more symbol

step : (old new : SoFar) (symbol : Symbol) (mark : Mark) → new.opened ≡ open_after old.opened symbol → mark ≡ mark_of old.opened symbol →
    ((marks : List Mark) → found new.whole (words_in (marks_of (begun_bytes new.begun) ++ marks))
    ≡ found old.whole (words_in (marks_of (begun_bytes old.begun) ++ mark ∷ marks))) →
    (symbols : List Symbol) → comes_to new symbols ≡ comes_to old (symbol ∷ symbols)
step old new symbol mark opened marked next symbols =
    let told : Option ℕ → Result (List (List ℕ)) WordsError → Result (List (List ℕ)) WordsError = λ o r. cond (is_some (open_at_end o symbols)) (Err Quote) r in
    ap (λ o. told o (found new.whole (words_in (marks_of (begun_bytes new.begun) ++ marks_from o symbols)))) opened
    ∙ ap (told (open_after old.opened symbol)) (next (marks_from (open_after old.opened symbol) symbols))
    ∙ ap (λ m. told (open_after old.opened symbol)
    (found old.whole (words_in (marks_of (begun_bytes old.begun) ++ m ∷ marks_from (open_after old.opened symbol) symbols)))) marked

pub part_passed : (old new : SoFar) (symbol : Symbol) (byte : ℕ) → new.opened ≡ open_after old.opened symbol
    → Part byte ≡ mark_of old.opened symbol → new.whole ≡ old.whole →
    begun_bytes new.begun ≡ Some (unwrap_or (begun_bytes old.begun) [] ++ byte ∷ []) → (symbols : List Symbol)
    → comes_to new symbols ≡ comes_to old (symbol ∷ symbols)
part_passed old new symbol byte opened marked whole put =
    step old new symbol (Part byte) opened marked (λ marks.
    ap (λ w. found w (words_in (marks_of (begun_bytes new.begun) ++ marks))) whole
    ∙ ap (λ b. found old.whole (words_in (marks_of b ++ marks))) put
    ∙ ap (found old.whole) (part_next (begun_bytes old.begun) byte marks))

pub edge_put : (old : Option (Vec ℕ Global)) (new bytes : Vec ℕ Global) → new.items ≡ [] → bytes ≡ unwrap_or old new
    → begun_bytes (Some bytes) ≡ Some (unwrap_or (begun_bytes old) [])
edge_put None new bytes none e = ap (λ v. Some v.items) e ∙ ap Some none
edge_put (Some old) new bytes none e = ap (λ v. Some v.items) e

pub edge_passed : (old new : SoFar) (symbol : Symbol) → new.opened ≡ open_after old.opened symbol → Edge ≡ mark_of old.opened symbol
    → new.whole ≡ old.whole →
    begun_bytes new.begun ≡ Some (unwrap_or (begun_bytes old.begun) []) → (symbols : List Symbol)
    → comes_to new symbols ≡ comes_to old (symbol ∷ symbols)
edge_passed old new symbol opened marked whole put =
    step old new symbol Edge opened marked (λ marks.
    ap (λ w. found w (words_in (marks_of (begun_bytes new.begun) ++ marks))) whole
    ∙ ap (λ b. found old.whole (words_in (marks_of b ++ marks))) put
    ∙ ap (found old.whole) (edge_next (begun_bytes old.begun) marks))

pub gap_passed : (old new : SoFar) (symbol : Symbol) (r : Result (Unit {0}) AllocError) → new.opened ≡ open_after old.opened symbol
    → Gap ≡ mark_of old.opened symbol → OnOk r (new.begun ≡ None) →
    OnOk r ((more : List (List ℕ)) → found new.whole more ≡ found old.whole (cons_option (begun_bytes old.begun) more))
    → OnOk r ((symbols : List Symbol) → comes_to new symbols ≡ comes_to old (symbol ∷ symbols))
gap_passed old new symbol (Err error) opened marked ended whole = tt
gap_passed old new symbol (Ok u) opened marked ended whole =
    step old new symbol Gap opened marked (λ marks.
    ap (λ b. found new.whole (words_in (marks_of (begun_bytes b) ++ marks))) ended
    ∙ whole (words_in marks)
    ∙ ap (found old.whole) (gap_next (begun_bytes old.begun) marks))

-- ---- at the ends

pub nothing_yet : (words : Vec (String Global) Global) → words.items ≡ [] → (symbols : List Symbol)
    → comes_to (record { opened = None; begun = None; whole = Some words }) symbols ≡ closed_only symbols
unfolding closed_only
nothing_yet words none symbols =
    ap (λ items. cond (is_some (open_at_end None symbols)) (Err Quote)
    (text_only (map string_bytes items ++ words_in (marks_from None symbols)))) none

-- a word that is no text
pub bad_word : (whole : Option (Vec (String Global) Global)) (words : Vec (String Global) Global) (bytes : List ℕ) → whole ≡ Some words
    → is_utf8 bytes ≡ false →
    (more : List (List ℕ)) → Err NotText ≡ found whole (bytes ∷ more)
bad_word whole words bytes some bad more = sym (ap (λ w. found w (bytes ∷ more)) some
    ∙ no_text (map string_bytes words.items) bytes more bad)

strings_are_text : (words : List (String Global)) → list_all is_utf8 (map string_bytes words) ≡ true
strings_are_text [] = refl
strings_are_text (word ∷ words) =
    and_from _ _ (∥∥₁_elim word.ok (Bool-set _ _) (λ u. is_utf8-from_IsUtf8 _ u)) (strings_are_text words)

told : (whole : Option (Vec (String Global) Global)) → MakesWords (found whole []) (ok_or whole NotText)
told None = refl
told (Some words) = ap text_only (append-nil (map string_bytes words.items))
    ∙ all_text (map string_bytes words.items) (strings_are_text words.items)

-- nothing is left
pub ends : (old : SoFar) (new : Option (Vec (String Global) Global)) → is_some old.opened ≡ false
    → ((more : List (List ℕ)) → found new more ≡ found old.whole (cons_option (begun_bytes old.begun) more)) →
    MakesWords (comes_to old []) (ok_or new NotText)
ends old new closed whole =
    subst (λ (r : Result (List (List ℕ)) WordsError). MakesWords r (ok_or new NotText))
    (whole []
    ∙ ap (found old.whole) (sym (none_left (begun_bytes old.begun)))
    ∙ sym (ap (λ b. cond {A = Result (List (List ℕ)) WordsError} b (Err Quote)
    (found old.whole (words_in (marks_of (begun_bytes old.begun) ++ [])))) closed))
    (told new)

-- ---- over the text

pub starts : (so_far : SoFar) (text : List ℕ) → ((symbols : List Symbol) → comes_to so_far symbols ≡ closed_only symbols)
    → splits_on so_far (symbols_of text) ≡ words_of text
unfolding words_of
starts so_far text h = by (symbols_of text)
  where
    by : (o : Option (List Symbol)) → splits_on so_far o ≡ words_by o
    by None = refl
    by (Some symbols) = h symbols

pub all_read : (so_far : SoFar) (left text : List ℕ) → splits_on so_far (symbols_of left) ≡ words_of text → length left ≡ 0
    → comes_to so_far [] ≡ words_of text
unfolding symbols_of
all_read so_far [] text h e = h
all_read so_far (byte ∷ left) text h e = absurd (omega (arith, e))
