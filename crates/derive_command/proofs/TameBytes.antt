-- Texts of names and spaces alone.
use Rattle.std.proofs.Common.{◌≡◌, ℕ, zero, suc, ◌<◌, ◌+◌, Bool, true, false, cond, List, [], ◌∷◌, ◌++◌, refl, ap, ◌∙◌, sym, subst, length}
use Rattle.std.proofs.Common.{reverse, arith}
use Rattle.std.specs.Prelude.{not, ◌||◌, ◌==◌, flat_map}
use Rattle.std.specs.List.{list_all, prefix_len, suffix_len, slice_index}
use Rattle.std.specs.Str.{is_utf8}
use Rattle.std.proofs.lemmas.Bool.{and_from, and_parts}
use Rattle.std.proofs.lemmas.Bool.Decides.{nat_tests}
use Rattle.std.proofs.lemmas.List.{append_assoc, append-nil, reverse-append}
use Rattle.std.proofs.lemmas.List.Folds.{list_all-append}
use Rattle.std.proofs.lemmas.Str.{IsUtf8-from_ascii, is_utf8-from_IsUtf8}
use Rattle.asked_service.specs.call_table.Names.{is_name, is_name_byte}

-- a byte of a name, or a space
abbrev pub is_tame : ℕ → Bool
is_tame byte = byte == 32 || is_name_byte byte

-- ASCII, and none of the bytes that a unit file, a specifier or a list of words looks at
pub record IsTame (byte : ℕ) : Type 0 where
  pub ascii : byte < 128
  pub no_nul : (byte == 0) ≡ false
  pub no_line : (byte == 10) ≡ false
  pub no_tab : (byte == 9) ≡ false
  pub no_return : (byte == 13) ≡ false
  pub no_backslash : (byte == 92) ≡ false
  pub no_percent : (byte == 37) ≡ false
  pub no_quotes : (byte == 34) ≡ false
  pub no_quote : (byte == 39) ≡ false
  pub no_colon : (byte == 58) ≡ false
  pub no_at : (byte == 64) ≡ false

pub record IsNameByte (byte : ℕ) : Type 0 where
  pub tame : IsTame byte
  pub no_space : (byte == 32) ≡ false

pub of_name : (byte : ℕ) → is_name_byte byte ≡ true → IsNameByte byte
of_name byte h = record {
  tame = record {
    ascii = grind (arith, nat_tests);
    no_nul = grind (arith, nat_tests);
    no_line = grind (arith, nat_tests);
    no_tab = grind (arith, nat_tests);
    no_return = grind (arith, nat_tests);
    no_backslash = grind (arith, nat_tests);
    no_percent = grind (arith, nat_tests);
    no_quotes = grind (arith, nat_tests);
    no_quote = grind (arith, nat_tests);
    no_colon = grind (arith, nat_tests);
    no_at = grind (arith, nat_tests);
  };
  no_space = grind (arith, nat_tests);
}

space : IsTame 32
space = record { ascii = omega arith; no_nul = refl; no_line = refl; no_tab = refl; no_return = refl; no_backslash = refl; no_percent = refl; no_quotes = refl; no_quote = refl; no_colon = refl; no_at = refl }

pub of_tame : (byte : ℕ) → is_tame byte ≡ true → IsTame byte
of_tame byte h = by (byte == 32) refl
  where
    by : (b : Bool) → (byte == 32) ≡ b → IsTame byte
    by true e = subst IsTame (grind (arith, nat_tests)) space
    by false e = (of_name byte (ap (λ b. b || is_name_byte byte) (sym e) ∙ h)).tame

pub unset : (b : Bool) → not b ≡ true → b ≡ false
unset true e = cc
unset false e = refl

-- one test of each byte follows of another
pub each_too : (p q : ℕ → Bool) → ((byte : ℕ) → p byte ≡ true → q byte ≡ true) → (bytes : List ℕ) → list_all p bytes ≡ true
    → list_all q bytes ≡ true
each_too p q follows [] h = refl
each_too p q follows (byte ∷ bytes) h =
    let both = and_parts (p byte) (list_all p bytes) h in
    and_from (q byte) (list_all q bytes) (follows byte both.0) (each_too p q follows bytes both.1)

pub tame_of_names : (bytes : List ℕ) → list_all is_name_byte bytes ≡ true → list_all is_tame bytes ≡ true
tame_of_names bytes h = each_too is_name_byte is_tame (λ byte is. ap (λ b. byte == 32 || b) is ∙ by (byte == 32)) bytes h
  where
    by : (b : Bool) → (b || true) ≡ true
    by true = refl
    by false = refl

-- texts of ASCII are UTF-8
pub ascii_text : (bytes : List ℕ) → list_all (λ byte. is_tame byte) bytes ≡ true → (i : ℕ) → slice_index bytes i < 128
ascii_text [] h i = omega arith
ascii_text (byte ∷ bytes) h zero = (of_tame byte (and_parts (is_tame byte) (list_all is_tame bytes) h).0).ascii
ascii_text (byte ∷ bytes) h (suc i) = ascii_text bytes (and_parts (is_tame byte) (list_all is_tame bytes) h).1 i

pub tame_utf8 : (bytes : List ℕ) → list_all is_tame bytes ≡ true → is_utf8 bytes ≡ true
tame_utf8 bytes h = is_utf8-from_IsUtf8 bytes (IsUtf8-from_ascii bytes (ascii_text bytes h))

-- where the last byte does not pass, none passes at the end
pub none_at_end : (p : ℕ → Bool) (front : List ℕ) (byte : ℕ) → p byte ≡ false → suffix_len p (front ++ byte ∷ []) ≡ 0
none_at_end p front byte fails = ap (prefix_len p) (reverse-append front (byte ∷ []))
    ∙ ap (λ b. cond b (1 + prefix_len p (reverse front)) 0) fails

-- a text without such bytes, behind any other that does not end in one
pub none_behind : (p : ℕ → Bool) (front back : List ℕ) → suffix_len p front ≡ 0 → list_all (λ byte. not (p byte)) back ≡ true
    → suffix_len p (front ++ back) ≡ 0
none_behind p front [] none all = ap (suffix_len p) (append-nil front) ∙ none
none_behind p front (byte ∷ back) none all =
    let both = and_parts (not (p byte)) (list_all (λ byte. not (p byte)) back) all in
    ap (suffix_len p) (sym (append_assoc front (byte ∷ []) back))
    ∙ none_behind p (front ++ byte ∷ []) back (none_at_end p front byte (unset (p byte) both.0)) both.1

-- ---- words
-- each behind a space
abbrev pub tail_of : List (List ℕ) → List ℕ
tail_of words = flat_map (λ word. 32 ∷ word) words

abbrev pub are_names : List (List ℕ) → Bool
are_names words = list_all is_name words

pub record IsWord (word : List ℕ) : Type 0 where
  pub first : ℕ
  pub rest : List ℕ
  pub is : word ≡ first ∷ rest
  pub first_byte : is_name_byte first ≡ true
  pub bytes : list_all is_name_byte word ≡ true

pub word_of : (word : List ℕ) → is_name word ≡ true → IsWord word
word_of [] h = cc
word_of (byte ∷ word) h =
    let bytes = (and_parts (not (length (byte ∷ word) == 0)) (list_all is_name_byte (byte ∷ word)) h).1 in
    record { first = byte; rest = word; is = refl; first_byte = (and_parts (is_name_byte byte) (list_all is_name_byte word) bytes).0; bytes = bytes }

pub tame_tail : (words : List (List ℕ)) → are_names words ≡ true → list_all is_tame (tail_of words) ≡ true
tame_tail [] h = refl
tame_tail (word ∷ words) h =
    let both = and_parts (is_name word) (are_names words) h in
    list_all-append is_tame word (tail_of words) ∙ and_from (list_all is_tame word) (list_all is_tame (tail_of words))
    (tame_of_names word (word_of word both.0).bytes) (tame_tail words both.1)

-- where a text does not end in such a byte, it does not with words behind it either
pub none_behind_words : (p : ℕ → Bool) → ((byte : ℕ) → is_name_byte byte ≡ true → not (p byte) ≡ true)
    → (front : List ℕ) (words : List (List ℕ)) → are_names words ≡ true → suffix_len p front ≡ 0 → suffix_len p (front ++ tail_of words) ≡ 0
none_behind_words p names front [] h none = ap (suffix_len p) (append-nil front) ∙ none
none_behind_words p names front (word ∷ words) h none =
    let both = and_parts (is_name word) (are_names words) h in
    let is = word_of word both.0 in
    let all = each_too is_name_byte (λ byte. not (p byte)) names word is.bytes in
    let parts = and_parts (not (p is.first)) (list_all (λ byte. not (p byte)) is.rest) (ap (list_all (λ byte. not (p byte))) (sym is.is) ∙ all) in
    let one : suffix_len p (front ++ 32 ∷ word) ≡ 0 =
    ap (λ w. suffix_len p (front ++ 32 ∷ w)) is.is
    ∙ ap (suffix_len p) (sym (append_assoc front (32 ∷ []) (is.first ∷ is.rest))
    ∙ sym (append_assoc (front ++ 32 ∷ []) (is.first ∷ []) is.rest))
    ∙ none_behind p ((front ++ 32 ∷ []) ++ is.first ∷ []) is.rest (none_at_end p (front ++ 32 ∷ []) is.first (unset (p is.first) parts.0)) parts.1 in
    ap (suffix_len p) (sym (append_assoc front (32 ∷ word) (tail_of words)))
    ∙ none_behind_words p names (front ++ 32 ∷ word) words both.1 one
