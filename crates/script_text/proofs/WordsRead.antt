-- Escaped words read byte by byte.
use Rattle.std.proofs.Common.{◌≡◌, ℕ, ◌+◌, ◌*◌, Bool, true, false, cond, List, [], ◌∷◌, ◌++◌, Option, Some, None, length, refl, sym, ap}
use Rattle.std.proofs.Common.{◌∙◌, subst, arith, append-nil}
use Rattle.std.specs.Prelude.{◌==◌, ◌&&◌}
use Rattle.std.specs.Char.{is_digit, digit_value}
use Rattle.std.proofs.lemmas.Bool.{and_from}
use Rattle.std.proofs.lemmas.Bool.Decides.{nat_tests}
use Rattle.kernel_model.specs.text_forms.Escaped.{with_byte, word_read, code_read}
use Rattle.script_text.specs.Escapes.{GivesByte, GivesCode}
use denote.Ref.{Bor}

abbrev Taken : Type 0
Taken = Option (ℕ × Bor (List ℕ))

pub gives_no_code : (word : List ℕ) (taken : Taken) → taken ≡ None → code_read word ≡ None → GivesCode word taken
gives_no_code word taken e h = subst (λ (taken : Taken). GivesCode word taken) (sym e) h

-- no digit stands behind the `%`
pub no_high : (word : List ℕ) → length word ≡ 0 → code_read word ≡ None
unfolding code_read
no_high [] e = refl
no_high (byte ∷ word) e = absurd (omega (arith, e))

pub no_low : (word : List ℕ) (high : ℕ) (rest : List ℕ) → word ≡ high ∷ rest → length rest ≡ 0 → code_read word ≡ None
unfolding code_read
no_low word high [] e h = ap code_read e
no_low word high (byte ∷ rest) e h = absurd (omega (arith, h))

digits_decide : ℕ → ℕ → List ℕ → Bool → Option (List ℕ)
digits_decide high low word both = cond both (with_byte (digit_value high * 16 + digit_value low) (word_read word)) None

code_of_two : (high low : ℕ) (rest : List ℕ) → code_read (high ∷ low ∷ rest)
    ≡ digits_decide high low rest (is_digit high 16 && is_digit low 16)
unfolding code_read digits_decide
code_of_two high low rest = refl

behind_two : (word : List ℕ) (high : ℕ) (behind : List ℕ) (low : ℕ) (rest : List ℕ) → word ≡ high ∷ behind → behind ≡ low ∷ rest
    → code_read word ≡ digits_decide high low rest (is_digit high 16 && is_digit low 16)
behind_two word high behind low rest e f = ap code_read (e ∙ ap (λ bs. high ∷ bs) f) ∙ code_of_two high low rest

pub bad_high : (word : List ℕ) (high : ℕ) (behind : List ℕ) (low : ℕ) (rest : List ℕ) → word ≡ high ∷ behind → behind ≡ low ∷ rest
    → is_digit high 16 ≡ false → code_read word ≡ None
unfolding digits_decide
bad_high word high behind low rest e f h = behind_two word high behind low rest e f
    ∙ ap (λ b. digits_decide high low rest (b && is_digit low 16)) h

pub bad_low : (word : List ℕ) (high : ℕ) (behind : List ℕ) (low : ℕ) (rest : List ℕ) → word ≡ high ∷ behind → behind ≡ low ∷ rest
    → is_digit low 16 ≡ false → code_read word ≡ None
unfolding digits_decide
bad_low word high behind low rest e f h = behind_two word high behind low rest e f
    ∙ ap (λ b. digits_decide high low rest (is_digit high 16 && b)) h ∙ by (is_digit high 16)
  where
    by : (b : Bool) → digits_decide high low rest (b && false) ≡ None
    by true = refl
    by false = refl

pub two_digits : (word : List ℕ) (high : ℕ) (behind : List ℕ) (low : ℕ) (rest : List ℕ) (a b : ℕ) → word ≡ high ∷ behind
    → behind ≡ low ∷ rest → is_digit high 16 ≡ true → is_digit low 16 ≡ true
    → a ≡ digit_value high → b ≡ digit_value low → code_read word ≡ with_byte (a * 16 + b) (word_read rest)
unfolding digits_decide
two_digits word high behind low rest a b e f h l p q =
    behind_two word high behind low rest e f ∙ ap (digits_decide high low rest) (and_from _ _ h l)
    ∙ ap (λ n. with_byte (n * 16 + digit_value low) (word_read rest)) (sym p) ∙ ap (λ n. with_byte (a * 16 + n) (word_read rest)) (sym q)

word_by : (byte : ℕ) (rest : List ℕ) → word_read (byte ∷ rest) ≡ cond (byte == 37) (code_read rest) (with_byte byte (word_read rest))
unfolding word_read
word_by byte rest = refl

pub coded : (word : List ℕ) (byte : ℕ) (rest : List ℕ) (taken : Taken) → word ≡ byte ∷ rest → byte ≡ 37 → GivesCode rest taken
    → GivesByte word taken
coded word byte rest taken e h g = by taken g
  where
    same : word_read word ≡ code_read rest
    same = ap word_read e ∙ word_by byte rest ∙ ap (λ b. cond (b == 37) (code_read rest) (with_byte byte (word_read rest))) h

    by : (taken : Taken) → GivesCode rest taken → GivesByte word taken
    by None g = same ∙ g
    by (Some taken) g = same ∙ g

pub as_it_stands : (word : List ℕ) (byte : ℕ) (rest : List ℕ) → word ≡ byte ∷ rest → (byte ≡ 37 → ⊥)
    → word_read word ≡ with_byte byte (word_read rest)
as_it_stands word byte rest e h = ap word_read e ∙ word_by byte rest
    ∙ ap (λ b. cond b (code_read rest) (with_byte byte (word_read rest))) other
  where
    other : (byte == 37) ≡ false
    other = grind (arith, nat_tests, h)

-- bytes that are read already, with those of what is left
abbrev pub behind : List ℕ → Option (List ℕ) → Option (List ℕ)
behind bytes None = None
behind bytes (Some more) = Some (bytes ++ more)

pub whole : (bytes left word : List ℕ) → behind bytes (word_read left) ≡ word_read word → length left ≡ 0 → word_read word ≡ Some bytes
unfolding word_read
whole bytes [] word h e = sym h ∙ ap Some (append-nil bytes)
whole bytes (byte ∷ left) word h e = absurd (omega (arith, e))
