-- Bytes may be text or no text.
use Rattle.std.proofs.Common.{◌≡◌, ℕ, Bool, true, false, cond, eqb, Some, None, List, refl, ap, ◌∙◌}
use Rattle.std.specs.Prelude.{◌&&◌, not}
use Rattle.std.specs.List.{list_any}
use Rattle.std.specs.Str.{IsUtf8, is_utf8}
use Rattle.std.proofs.lemmas.Str.{IsUtf8-from_is_utf8, is_utf8-from_IsUtf8}
use Rattle.text_forms.specs.line_text.Lines.{text_of}

is_false : (b : Bool) → (b ≡ true → ⊥) → b ≡ false
is_false true h = absurd (h refl)
is_false false h = refl

has_no_nul : List ℕ → Bool
has_no_nul bytes = not (list_any (λ byte. eqb byte 0) bytes)

pub not_utf8 : (bytes : List ℕ) → ¬ (IsUtf8 bytes) → text_of bytes ≡ None
unfolding text_of has_no_nul
not_utf8 bytes h = ap (λ b. cond (b && has_no_nul bytes) (Some bytes) None)
    (is_false (is_utf8 bytes) (λ e. h (IsUtf8-from_is_utf8 bytes e)))

pub has_nul : (bytes : List ℕ) → list_any (λ byte. eqb byte 0) bytes ≡ true → text_of bytes ≡ None
unfolding text_of
has_nul bytes h = by (is_utf8 bytes)
  where
    by : (b : Bool) → cond (b && not (list_any (λ byte. eqb byte 0) bytes)) (Some bytes) None ≡ None
    by true = ap (λ b. cond (not b) (Some bytes) None) h
    by false = refl

pub is_text : (bytes : List ℕ) → IsUtf8 bytes → list_any (λ byte. eqb byte 0) bytes ≡ false → text_of bytes ≡ Some bytes
unfolding text_of
is_text bytes u z =
    ap (λ b. cond (b && not (list_any (λ byte. eqb byte 0) bytes)) (Some bytes) None) (is_utf8-from_IsUtf8 bytes u)
    ∙ ap (λ b. cond (not b) (Some bytes) None) z
