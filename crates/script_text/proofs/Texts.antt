-- Bytes that are a text, and bytes that are not.
use Rattle.std.proofs.Common.{◌≡◌, ℕ, ◌<◌, cond, Some, None, List, sym, ap, ◌∙◌, subst}
use Rattle.std.specs.Str.{IsUtf8, is_utf8}
use Rattle.std.proofs.lemmas.Bool.{false_from_ne_true}
use Rattle.std.specs.List.{All}
use Rattle.std.proofs.lemmas.Str.{is_utf8-from_IsUtf8, IsUtf8-from_is_utf8}
use Rattle.script_text.specs.Escapes.{text_only}
use Rattle.script_text.specs.PrintedAgain.{IsText}

pub text_of_utf8 : (bytes text : List ℕ) → IsUtf8 text → text ≡ bytes → Some text ≡ text_only bytes
text_of_utf8 bytes text utf8 e = sym (ap text_only (sym e) ∙ ap (λ b. cond b (Some text) None) (is_utf8-from_IsUtf8 text utf8))

pub text_of_other : (bytes : List ℕ) → (IsUtf8 bytes → ⊥) → None ≡ text_only bytes
text_of_other bytes h = sym (ap (λ b. cond b (Some bytes) None) (false_from_ne_true (is_utf8 bytes) (λ e. h (IsUtf8-from_is_utf8 bytes e))))

-- what a text that is lent holds
pub is_text : (text bytes : List ℕ) → bytes ≡ text → IsUtf8 text → All (λ byte. byte < 256) bytes → IsText text
is_text text bytes e utf8 small = record { utf8 = is_utf8-from_IsUtf8 text utf8; small = subst (All (λ byte. byte < 256)) e small }
