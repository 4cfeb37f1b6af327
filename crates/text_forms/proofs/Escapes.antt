-- An escaped word is read back as its bytes.
use Rattle.std.proofs.Common.{◌≡◌, ℕ, suc, ◌+◌, ◌-◌, ◌*◌, ◌/◌, ◌%◌, ◌<◌, ◌≤◌, Bool, true, false, cond, List, [], ◌∷◌, ◌++◌, Some, None}
use Rattle.std.proofs.Common.{length, take, take_all, drop, get_or, refl, sym, ap, ◌∙◌, append-nil, length-drop, arith}
use Rattle.std.specs.Prelude.{◌||◌, ◌==◌, not, nat_le, nat_lt, position}
use Rattle.std.specs.Char.{digit_value, is_digit}
use Rattle.std.specs.List.{All, AllByRecursion, position_or_len}
use Rattle.std.proofs.lemmas.List.{drop_all, drop_more}
use Rattle.std.proofs.lemmas.List.Quantifiers.{position-Some}
use Rattle.std.proofs.lemmas.List.Elements.{All-from_recursion, recursion_from_All}
use Rattle.std.proofs.lemmas.Bool.{and_from, or_parts}
use Rattle.std.proofs.lemmas.Bool.Decides.{nat_tests}
use Rattle.text_forms.specs.Escaped.{is_coded, upper_digit, escaped_byte, escaped_word, with_byte, word_read, code_read}

digit_of : (digit : ℕ) → digit < 16 → digit_value (upper_digit digit) ≡ digit
digit_of digit h = grind (arith, nat_tests)

digit_fits : (digit : ℕ) → digit < 16 → is_digit (upper_digit digit) 16 ≡ true
digit_fits digit h = let value = digit_of digit h in grind (arith, nat_tests)

digit_shows : (digit : ℕ) → 32 < upper_digit digit
digit_shows digit = grind (arith, nat_tests)

read_escaped : (byte : ℕ) (word : List ℕ) → byte < 256 → word_read (escaped_byte byte ++ word) ≡ with_byte byte (word_read word)
unfolding word_read escaped_byte
read_escaped byte word h = by (is_coded byte) refl
  where
    coded : is_digit (upper_digit (byte / 16)) 16 ≡ true → is_digit (upper_digit (byte % 16)) 16 ≡ true
        → digit_value (upper_digit (byte / 16)) * 16 + digit_value (upper_digit (byte % 16)) ≡ byte →
        code_read (upper_digit (byte / 16) ∷ upper_digit (byte % 16) ∷ word) ≡ with_byte byte (word_read word)
    coded p q e = ap (λ b. cond b
        (with_byte (digit_value (upper_digit (byte / 16)) * 16 + digit_value (upper_digit (byte % 16))) (word_read word)) None)
        (and_from _ _ p q) ∙ ap (λ n. with_byte n (word_read word)) e

    by : (b : Bool) → is_coded byte ≡ b
        → word_read (cond b (37 ∷ upper_digit (byte / 16) ∷ upper_digit (byte % 16) ∷ []) (byte ∷ []) ++ word)
        ≡ with_byte byte (word_read word)
    by true e =
        let high = digit_of (byte / 16) (omega arith) in
        let low = digit_of (byte % 16) (omega arith) in
        coded (digit_fits (byte / 16) (omega arith)) (digit_fits (byte % 16) (omega arith)) (omega (arith, high, low))
    by false e = ap (λ b. cond b (code_read word) (with_byte byte (word_read word)))
        (or_parts (nat_le byte 32 || byte == 127) (byte == 37) e).1

read_back : (text : List ℕ) → AllByRecursion (λ byte. byte < 256) text → word_read (escaped_word text) ≡ Some text
unfolding word_read
read_back [] h = refl
read_back (byte ∷ text) h = read_escaped byte (escaped_word text) h.0 ∙ ap (with_byte byte) (read_back text h.1)

pub escaped_read : (text : List ℕ) → All (λ byte. byte < 256) text → word_read (escaped_word text) ≡ Some text
escaped_read text h = read_back text (recursion_from_All (λ byte. byte < 256) text h)

all_append : (P : ℕ → Type 0) (xs ys : List ℕ) → AllByRecursion P xs → AllByRecursion P ys → AllByRecursion P (xs ++ ys)
all_append P [] ys h g = g
all_append P (x ∷ xs) ys h g = (h.0, all_append P xs ys h.1 g)

byte_shows : (byte : ℕ) → AllByRecursion (λ b. 32 < b) (escaped_byte byte)
unfolding escaped_byte
byte_shows byte = by (is_coded byte) refl
  where
    by : (b : Bool) → is_coded byte ≡ b → AllByRecursion (λ b. 32 < b)
        (cond b (37 ∷ upper_digit (byte / 16) ∷ upper_digit (byte % 16) ∷ []) (byte ∷ []))
    by true e = (omega arith, (digit_shows (byte / 16), (digit_shows (byte % 16), tt)))
    by false e =
        let small : nat_le byte 32 ≡ false = (or_parts (nat_le byte 32) (byte == 127) (or_parts (nat_le byte 32 || byte == 127) (byte == 37) e).0).0 in
        (grind (arith, nat_tests), tt)

all_show : (text : List ℕ) → AllByRecursion (λ b. 32 < b) (escaped_word text)
all_show [] = tt
all_show (byte ∷ text) = all_append (λ b. 32 < b) (escaped_byte byte) (escaped_word text) (byte_shows byte) (all_show text)

pub no_white : (text : List ℕ) → All (λ byte. 32 < byte) (escaped_word text)
no_white text = All-from_recursion (λ byte. 32 < byte) (escaped_word text) (all_show text)

-- ---- a run of plain bytes

plain : (byte : ℕ) → is_coded byte ≡ false → escaped_byte byte ≡ byte ∷ []
unfolding escaped_byte
plain byte h = ap (λ b. cond b (37 ∷ upper_digit (byte / 16) ∷ upper_digit (byte % 16) ∷ []) (byte ∷ [])) h

run : (bytes : List ℕ) → escaped_word bytes ≡ take (position_or_len is_coded bytes) bytes ++ escaped_word
    (drop (position_or_len is_coded bytes) bytes)
run [] = refl
run (byte ∷ bytes) = by (is_coded byte) refl (run bytes)
  where
    by : (b : Bool) → is_coded byte ≡ b → escaped_word bytes
        ≡ take (position_or_len is_coded bytes) bytes ++ escaped_word (drop (position_or_len is_coded bytes) bytes) →
        escaped_word (byte ∷ bytes) ≡ take (cond (not b) (1 + position_or_len is_coded bytes) 0) (byte ∷ bytes) ++ escaped_word
        (drop (cond (not b) (1 + position_or_len is_coded bytes) 0) (byte ∷ bytes))
    by true e rest = refl
    by false e rest =
        let next : suc (position_or_len is_coded bytes) ≡ 1 + position_or_len is_coded bytes = omega arith in
        ap (λ front. front ++ escaped_word bytes) (plain byte e) ∙ ap (λ left. byte ∷ left) rest
        ∙ ap (λ k. take k (byte ∷ bytes) ++ escaped_word (drop k (byte ∷ bytes))) next

found_at : (b : Bool) (p i : ℕ) → Some i ≡ cond b (Some p) None → p ≡ i
found_at true p i e = cc
found_at false p i e = cc

not_found : (b : Bool) (p : ℕ) → None ≡ cond b (Some p) None → b ≡ false
not_found true p e = cc
not_found false p e = refl

-- no byte is coded
pub none_coded : (bytes : List ℕ) → None ≡ position is_coded bytes → escaped_word bytes ≡ bytes
none_coded bytes e =
    let none = not_found (nat_lt (position_or_len is_coded bytes) (length bytes)) (position_or_len is_coded bytes) e in
    let past : length bytes ≤ position_or_len is_coded bytes = grind (arith, nat_tests) in
    run bytes
    ∙ ap (λ rest. take (position_or_len is_coded bytes) bytes ++ escaped_word rest) (drop_all (position_or_len is_coded bytes) bytes past)
    ∙ append-nil (take (position_or_len is_coded bytes) bytes)
    ∙ take_all (position_or_len is_coded bytes) bytes past

-- the first coded byte is here
pub first_coded : (bytes : List ℕ) (i : ℕ) → Some i ≡ position is_coded bytes → is_coded (get_or bytes i 0) ≡ true
first_coded bytes i e = (position-Some is_coded bytes i 0 (sym e)).1

pub coded_parts : (bytes : List ℕ) (i : ℕ) → Some i ≡ position is_coded bytes →
    escaped_word bytes ≡ take i bytes ++
    (escaped_byte (get_or bytes i 0) ++ escaped_word (take (length bytes - (i + 1)) (drop (i + 1) bytes)))
coded_parts bytes i e =
    let within = (position-Some is_coded bytes i 0 (sym e)).0 in
    let whole : take (length bytes - (i + 1)) (drop (i + 1) bytes) ≡ drop (i + 1) bytes = take_all _ _ (omega (arith, length-drop (i + 1) bytes)) in
    run bytes
    ∙ ap (λ n. take n bytes ++ escaped_word (drop n bytes))
    (found_at (nat_lt (position_or_len is_coded bytes) (length bytes)) (position_or_len is_coded bytes) i e)
    ∙ ap (λ rest. take i bytes ++ escaped_word rest) (drop_more bytes i 0 within)
    ∙ ap (λ rest. take i bytes ++ (escaped_byte (get_or bytes i 0) ++ escaped_word rest)) (sym whole)
