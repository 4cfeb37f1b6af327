-- An answer says whether there is a wanted text.
use Rattle.std.proofs.Common.{◌≡◌, ℕ, cond, Option, Some, None, Result, Ok, Err, List, sym, ap, ◌∙◌}
use Rattle.std.specs.Prelude.{String, string_bytes, IfOk}
use Rattle.std.specs.declared.alloc.Global.{Global}
use Rattle.std.specs.Str.{IsUtf8, is_utf8}
use Rattle.std.proofs.lemmas.Str.{IsUtf8-from_is_utf8, is_utf8-from_IsUtf8}
use Rattle.std.proofs.lemmas.Bool.{false_from_ne_true}
use Rattle.unit_names.specs.Expansion.{if_text}
use Rattle.unit_names.specs.Taking.{GivesText}
use Rattle.unit_names.specs.declared.expansion.ExpandError.{ExpandError}
use Rattle.unit_names.specs.declared.expansion.ExpandError.TheVariants.{Specifier as Refused, Memory}

pub gives_then : (wanted : Option (List ℕ)) (result : Result (String Global) ExpandError) → GivesText wanted result
    → IfOk result (λ text. wanted ≡ Some (string_bytes text))
gives_then wanted (Ok text) h = h
gives_then wanted (Err error) h = tt

pub refuses_then : (wanted : Option (List ℕ)) (result : Result (String Global) ExpandError) → GivesText wanted result
    → result ≡ Err Refused → wanted ≡ None
refuses_then wanted (Ok text) h e = cc
refuses_then wanted (Err Refused) h e = h
refuses_then wanted (Err Memory) h e = cc

-- bytes are a text exactly if they are UTF-8
pub text_of_utf8 : (bytes text : List ℕ) → IsUtf8 text → text ≡ bytes → if_text bytes ≡ Some text
text_of_utf8 bytes text utf8 e = ap if_text (sym e) ∙ ap (λ b. cond b (Some text) None) (is_utf8-from_IsUtf8 text utf8)

pub text_of_other : (bytes : List ℕ) → (IsUtf8 bytes → ⊥) → if_text bytes ≡ None
text_of_other bytes h = ap (λ b. cond b (Some bytes) None) (false_from_ne_true (is_utf8 bytes) (λ e. h (IsUtf8-from_is_utf8 bytes e)))
