-- The symbols of a text spell the text.
use Rattle.std.proofs.Common.{◌≡◌, ◌≢◌, inl, inr, ℕ, ◌+◌, ◌*◌, Bool, true, false, cond, List, [], ◌∷◌, ◌++◌, Option, Some, None, refl, sym}
use Rattle.std.proofs.Common.{ap, ◌∙◌, subst}
use Rattle.std.specs.Prelude.{◌&&◌, ◌==◌}
use Rattle.std.specs.Char.{digit_value}
use Rattle.std.proofs.lemmas.Bool.{and_parts, and_from, eqb-true, eqb-false, false_from_ne_true}
use Rattle.text_forms.specs.declared.splitting.symbols.Symbol.{Symbol}
use Rattle.text_forms.specs.declared.splitting.symbols.Symbol.TheVariants.{Plain, Escaped}
use Rattle.text_forms.specs.Words.{is_backslash, escape_of, is_hex_digit, with_symbol, with_escaped, symbols_of, escaped_symbols}
use Rattle.text_forms.specs.Words.{coded_symbols}
use Rattle.text_forms.specs.Grammar.{IsWritten, Spells}

-- a result of `with_symbol` has that symbol in front
first_is : (symbol : Symbol) (rest : Option (List Symbol)) (symbols : List Symbol) → with_symbol symbol rest ≡ Some symbols
    → (more : List Symbol) × (rest ≡ Some more) × (symbols ≡ symbol ∷ more)
first_is symbol None symbols e = absurd (cc)
first_is symbol (Some more) symbols e = (more, refl, cc)

-- a written symbol is in front of a text that spells more
in_front : (symbol : Symbol) (written text : List ℕ) (rest : Option (List Symbol)) (symbols : List Symbol) → IsWritten symbol written
    → with_symbol symbol rest ≡ Some symbols →
    ((more : List Symbol) → rest ≡ Some more → Spells more text) → Spells symbols (written ++ text)
in_front symbol written text rest symbols w e spelled =
    let found = first_is symbol rest symbols e in
    subst (λ (l : List Symbol). Spells l (written ++ text)) (sym found.2) (written, text, w, refl, spelled found.0 found.1)

plain_from : (byte : ℕ) (text : List ℕ) (symbols : List Symbol) (b : Bool) → is_backslash byte ≡ b
    → cond b (escaped_symbols text) (with_symbol (Plain byte) (symbols_of text)) ≡ Some symbols →
    (escaped_symbols text ≡ Some symbols → Spells symbols (92 ∷ text))
    → ((more : List Symbol) → symbols_of text ≡ Some more → Spells more text) → Spells symbols (byte ∷ text)
plain_from byte text symbols true is e escaped plain = subst (λ (n : ℕ). Spells symbols (n ∷ text)) (sym (eqb-true byte 92 is)) (escaped e)
plain_from byte text symbols false is e escaped plain = in_front (Plain byte) (byte ∷ []) text (symbols_of text) symbols
    (refl, eqb-false byte 92 is) e plain

letter_from : (letter : ℕ) (text : List ℕ) (symbols : List Symbol) (b : Option ℕ) → escape_of letter ≡ b
    → with_escaped b (symbols_of text) ≡ Some symbols →
    ((more : List Symbol) → symbols_of text ≡ Some more → Spells more text) → Spells symbols (92 ∷ letter ∷ text)
letter_from letter text symbols None is e plain = absurd (cc)
letter_from letter text symbols (Some byte) is e plain = in_front (Escaped byte) (92 ∷ letter ∷ []) text (symbols_of text) symbols
    (inl (letter, refl, is)) e plain

escaped_from : (letter : ℕ) (text : List ℕ) (symbols : List Symbol) (b : Bool) → (letter == 120) ≡ b
    → cond b (coded_symbols text) (with_escaped (escape_of letter) (symbols_of text)) ≡ Some symbols →
    (coded_symbols text ≡ Some symbols → Spells symbols (92 ∷ 120 ∷ text))
    → ((more : List Symbol) → symbols_of text ≡ Some more → Spells more text) → Spells symbols (92 ∷ letter ∷ text)
escaped_from letter text symbols true is e coded plain = subst (λ (n : ℕ). Spells symbols (92 ∷ n ∷ text)) (sym (eqb-true letter 120 is))
    (coded e)
escaped_from letter text symbols false is e coded plain = letter_from letter text symbols (escape_of letter) refl e plain

coded_from : (high low : ℕ) (text : List ℕ) (symbols : List Symbol) (b : Bool) → (is_hex_digit high && is_hex_digit low) ≡ b →
    cond b (with_symbol (Escaped (digit_value high * 16 + digit_value low)) (symbols_of text)) None ≡ Some symbols →
    ((more : List Symbol) → symbols_of text ≡ Some more → Spells more text) → Spells symbols (92 ∷ 120 ∷ high ∷ low ∷ text)
coded_from high low text symbols true is e plain =
    let both = and_parts (is_hex_digit high) (is_hex_digit low) is in
    in_front (Escaped (digit_value high * 16 + digit_value low)) (92 ∷ 120 ∷ high ∷ low ∷ []) text (symbols_of text) symbols
    (inr (high, low, refl, (both.0, both.1, refl))) e plain
coded_from high low text symbols false is e plain = absurd (cc)

mutual
  unfolding symbols_of

  pub spells_from : (text : List ℕ) (symbols : List Symbol) → symbols_of text ≡ Some symbols → Spells symbols text
  spells_from [] symbols e = let none : [] ≡ symbols = cc in subst (λ (l : List Symbol). Spells l []) none refl
  spells_from (byte ∷ text) symbols e = plain_from byte text symbols (is_backslash byte) refl e (escaped_spells_from text symbols)
      (spells_from text)

  escaped_spells_from : (text : List ℕ) (symbols : List Symbol) → escaped_symbols text ≡ Some symbols → Spells symbols (92 ∷ text)
  escaped_spells_from [] symbols e = absurd (cc)
  escaped_spells_from (letter ∷ text) symbols e = escaped_from letter text symbols (letter == 120) refl e (coded_spells_from text symbols)
      (spells_from text)

  coded_spells_from : (text : List ℕ) (symbols : List Symbol) → coded_symbols text ≡ Some symbols → Spells symbols (92 ∷ 120 ∷ text)
  coded_spells_from [] symbols e = absurd (cc)
  coded_spells_from (high ∷ []) symbols e = absurd (cc)
  coded_spells_from (high ∷ low ∷ text) symbols e = coded_from high low text symbols (is_hex_digit high && is_hex_digit low) refl e
      (spells_from text)

no_x : (letter byte : ℕ) → escape_of letter ≡ Some byte → letter ≢ 120
unfolding escape_of
no_x letter byte h e = let none : escape_of 120 ≡ Some byte = subst (λ (n : ℕ). escape_of n ≡ Some byte) e h in absurd (cc)

-- a written symbol is read as that symbol
written_read : (symbol : Symbol) (written rest : List ℕ) → IsWritten symbol written
    → symbols_of (written ++ rest) ≡ with_symbol symbol (symbols_of rest)
unfolding symbols_of
written_read (Plain byte) written rest w =
    ap (λ l. symbols_of (l ++ rest)) w.0
    ∙ ap (λ b. cond b (escaped_symbols rest) (with_symbol (Plain byte) (symbols_of rest)))
    (false_from_ne_true (byte == 92) (λ e. w.1 (eqb-true byte 92 e)))
written_read (Escaped byte) written rest (inl w) =
    ap (λ l. symbols_of (l ++ rest)) w.1
    ∙ ap (λ b. cond b (coded_symbols rest) (with_escaped (escape_of w.0) (symbols_of rest)))
    (false_from_ne_true (w.0 == 120) (λ e. no_x w.0 byte w.2 (eqb-true w.0 120 e)))
    ∙ ap (λ o. with_escaped o (symbols_of rest)) w.2
written_read (Escaped byte) written rest (inr w) =
    ap (λ l. symbols_of (l ++ rest)) w.2
    ∙ ap (λ b. cond b (with_symbol (Escaped (digit_value w.0 * 16 + digit_value w.1)) (symbols_of rest)) None) (and_from _ _ w.3.0 w.3.1)
    ∙ ap (λ n. with_symbol (Escaped n) (symbols_of rest)) (sym w.3.2)

pub spells_read : (symbols : List Symbol) (text : List ℕ) → Spells symbols text → symbols_of text ≡ Some symbols
unfolding symbols_of
spells_read [] text e = ap symbols_of e
spells_read (symbol ∷ symbols) text (written, rest, w, e, more) = ap symbols_of e ∙ written_read symbol written rest w
    ∙ ap (with_symbol symbol) (spells_read symbols rest more)
