-- Some pieces make words, and some words are text.
use Rattle.std.proofs.Common.{◌≡◌, ℕ, ◌<◌, Bool, true, false, cond, List, [], ◌∷◌, ◌++◌, length, Result, Ok, Err, refl, ap, ◌∙◌, arith}
use Rattle.std.specs.Prelude.{◌&&◌}
use Rattle.std.specs.List.{list_all}
use Rattle.std.specs.Str.{is_utf8}
use Rattle.text_forms.specs.declared.error.WordsError.{WordsError}
use Rattle.text_forms.specs.declared.error.WordsError.TheVariants.{NotText}
use Rattle.text_forms.specs.declared.splitting.marks.Mark.{Mark}
use Rattle.text_forms.specs.Words.{bytes_of, words_between, text_only}

pub made_of : (piece : List Mark) (pieces : List (List Mark)) → 0 < length piece
    → words_between (piece ∷ pieces) ≡ bytes_of piece ∷ words_between pieces
made_of [] pieces h = absurd (omega arith)
made_of (mark ∷ piece) pieces h = refl

pub all_text : (words : List (List ℕ)) → list_all is_utf8 words ≡ true → text_only words ≡ Ok words
unfolding text_only
all_text words h = ap (λ b. cond {A = Result (List (List ℕ)) WordsError} b (Ok words) (Err NotText)) h

not_all : (front : List (List ℕ)) (bad : List ℕ) (rest : List (List ℕ)) → is_utf8 bad ≡ false
    → list_all is_utf8 (front ++ bad ∷ rest) ≡ false
not_all [] bad rest h = ap (λ b. b && list_all is_utf8 rest) h
not_all (word ∷ front) bad rest h = ap (λ b. is_utf8 word && b) (not_all front bad rest h) ∙ by (is_utf8 word)
  where
    by : (b : Bool) → (b && false) ≡ false
    by true = refl
    by false = refl

-- a word that is no text is reported
pub no_text : (front : List (List ℕ)) (bad : List ℕ) (rest : List (List ℕ)) → is_utf8 bad ≡ false
    → text_only (front ++ bad ∷ rest) ≡ Err NotText
unfolding text_only
no_text front bad rest h = ap (λ b. cond {A = Result (List (List ℕ)) WordsError} b (Ok (front ++ bad ∷ rest)) (Err NotText))
    (not_all front bad rest h)
