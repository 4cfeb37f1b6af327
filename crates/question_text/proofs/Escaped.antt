-- An escaped word is read back, whatever the bytes are.
use Rattle.std.proofs.Common.{◌≡◌, ℕ, ◌+◌, ◌*◌, ◌/◌, ◌%◌, ◌<◌, Bool, true, false, cond, List, [], ◌∷◌, ◌++◌, Some, None, refl, ap, ◌∙◌}
use Rattle.std.proofs.Common.{arith}
use Rattle.std.specs.Prelude.{◌||◌, ◌==◌, nat_le}
use Rattle.std.specs.Char.{digit_value, is_digit}
use Rattle.std.proofs.lemmas.Bool.{and_from, or_parts}
use Rattle.std.proofs.lemmas.Bool.Decides.{nat_tests}
use Rattle.report_text.specs.text_forms.Escaped.{is_coded, upper_digit, escaped_byte, escaped_word, with_byte, word_read, code_read}

digit_of : (digit : ℕ) → digit < 16 → digit_value (upper_digit digit) ≡ digit
digit_of digit h = grind (arith, nat_tests)

digit_fits : (digit : ℕ) → digit < 16 → is_digit (upper_digit digit) 16 ≡ true
digit_fits digit h = let value = digit_of digit h in grind (arith, nat_tests)

coded_small : (byte : ℕ) → is_coded byte ≡ true → byte < 256
coded_small byte h = grind (arith, nat_tests)

byte_back : (byte : ℕ) (word : List ℕ) → word_read (escaped_byte byte ++ word) ≡ with_byte byte (word_read word)
unfolding word_read escaped_byte
byte_back byte word = by (is_coded byte) refl
  where
    coded : is_digit (upper_digit (byte / 16)) 16 ≡ true → is_digit (upper_digit (byte % 16)) 16 ≡ true
        → digit_value (upper_digit (byte / 16)) * 16 + digit_value (upper_digit (byte % 16)) ≡ byte →
        code_read (upper_digit (byte / 16) ∷ upper_digit (byte % 16) ∷ word) ≡ with_byte byte (word_read word)
    coded p q e = ap (λ b. cond b
        (with_byte (digit_value (upper_digit (byte / 16)) * 16 + digit_value (upper_digit (byte % 16))) (word_read word)) None)
        (and_from _ _ p q) ∙ ap (λ n. with_byte n (word_read word)) e

    by : (b : Bool) → is_coded byte ≡ b
        → word_read (cond b (37 ∷ upper_digit (byte / 16) ∷ upper_digit (byte % 16) ∷ []) (byte ∷ []) ++ word)
        ≡ with_byte byte (word_read word)
    by true e =
        let small : byte < 256 = coded_small byte e in
        let high = digit_of (byte / 16) (omega arith) in
        let low = digit_of (byte % 16) (omega arith) in
        coded (digit_fits (byte / 16) (omega arith)) (digit_fits (byte % 16) (omega arith)) (omega (arith, high, low))
    by false e = ap (λ b. cond b (code_read word) (with_byte byte (word_read word)))
        (or_parts (nat_le byte 32 || byte == 127) (byte == 37) e).1

pub word_back : (text : List ℕ) → word_read (escaped_word text) ≡ Some text
unfolding word_read
word_back [] = refl
word_back (byte ∷ text) = byte_back byte (escaped_word text) ∙ ap (with_byte byte) (word_back text)
