-- Texts that are written as escaped words.
use Rattle.std.specs.Prelude.{◌≡◌, ℕ, cond, Option, Some, None, option_and_then, MatchOption, List}
use Rattle.std.specs.Str.{is_utf8}
use Rattle.kernel_model.specs.text_forms.Escaped.{with_byte, word_read, code_read}
use denote.Ref.{Bor}

abbrev pub text_only : List ℕ → Option (List ℕ)
text_only bytes = cond (is_utf8 bytes) (Some bytes) None

-- the text that an escaped word is read as: UTF-8, or nothing
unfoldable pub escaped_text : List ℕ → Option (List ℕ)
escaped_text word = option_and_then text_only (word_read word)

-- the first byte that an escaped word encodes, and the rest of the word
abbrev pub GivesByte : List ℕ → Option (ℕ × Bor (List ℕ)) → Type 0
GivesByte word taken = MatchOption taken (word_read word ≡ None) (λ taken. word_read word ≡ with_byte taken.0 (word_read taken.1.now))

-- the same after a `%`
abbrev pub GivesCode : List ℕ → Option (ℕ × Bor (List ℕ)) → Type 0
GivesCode word taken = MatchOption taken (code_read word ≡ None) (λ taken. code_read word ≡ with_byte taken.0 (word_read taken.1.now))
