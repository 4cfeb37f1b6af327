-- The names and numbers of lines occur once, also after one more line.
use Rattle.std.proofs.Common.{◌≡◌, ℕ, true, false, List, [], ◌∷◌, ◌++◌, Some, ⊎_elim, refl, sym, ap, ◌∙◌, subst, arith}
use Rattle.std.specs.Prelude.{◌==◌}
use Rattle.std.specs.List.{list_any}
use Rattle.std.specs.Str.{bytes_eq}
use Rattle.std.proofs.lemmas.Slice.Eq.{bytes_eq-Decides}
use Rattle.std.proofs.lemmas.Bool.Decides.{nat_tests}
use Rattle.call_table.specs.declared.listed.CallLine.{CallLine}
use Rattle.call_table.specs.Lookups.{has_name, has_number, place_named, place_numbered, AreOnce}
use Rattle.call_table.proofs.Places.{place_stays, place_at_end, get_push_cases}

pub same_bytes : (xs : List ℕ) → bytes_eq xs xs ≡ true
same_bytes xs = (bytes_eq-Decides xs xs).1 refl

same_number : (n : ℕ) → n == n ≡ true
same_number n = grind (arith, nat_tests)

pub once_push : (lines : List CallLine) (line : CallLine) → AreOnce lines → list_any (has_name line.name) lines ≡ false
    → list_any (has_number line.number) lines ≡ false → AreOnce (lines ++ line ∷ [])
once_push lines line once new_name new_number = record {
  by_name = λ at found e. ⊎_elim
      (λ there. place_stays (has_name found.name) lines (line ∷ []) at line (once.by_name at found there))
      (λ here. subst (λ (l : CallLine). place_named l.name (lines ++ line ∷ []) ≡ Some at) here.1
      (place_at_end (has_name line.name) lines line new_name (same_bytes line.name) ∙ ap Some (sym here.0)))
      (get_push_cases lines line found at e);
  by_number = λ at found e. ⊎_elim
      (λ there. place_stays (has_number found.number) lines (line ∷ []) at line (once.by_number at found there))
      (λ here. subst (λ (l : CallLine). place_numbered l.number (lines ++ line ∷ []) ≡ Some at) here.1
      (place_at_end (has_number line.number) lines line new_number (same_number line.number) ∙ ap Some (sym here.0)))
      (get_push_cases lines line found at e);
}
