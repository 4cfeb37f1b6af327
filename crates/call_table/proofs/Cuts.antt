-- The last cut of a text.
use Rattle.std.proofs.Common.{◌≡◌, ℕ, zero, suc, ◌+◌, ◌-◌, ◌≤◌, ◌<◌, true, false, cond, eqb, List, [], ◌∷◌, ◌++◌, length, get_or, take}
use Rattle.std.proofs.Common.{drop, Option, Some, None, MatchOption, refl, sym, ap, ap₂, subst, ◌∙◌, arith, Bor, eq-eqb, ne_eqb}
use Rattle.std.proofs.Common.{take-append-drop}
use Rattle.std.specs.Option.{option_map}
use Rattle.std.specs.Str.Pattern.{RFindsChar}
use Rattle.std.proofs.lemmas.List.{drop_more}
use Rattle.std.proofs.lemmas.Str.Pattern.{NoCharPasses-char}
use Rattle.std.proofs.lemmas.Bool.{cond-true, cond-false}
use Rattle.std.proofs.lemmas.Str.{len_utf8_ascii}
use Rattle.call_table.specs.call_words.Words.{cut_at, last_cut, Lacks}

pub lacking : (mark : ℕ) (text : List ℕ) → Lacks mark text → last_cut mark text ≡ None
lacking mark [] h = refl
lacking mark (byte ∷ rest) h = ap (cut_at mark byte rest) (lacking mark rest (λ i l e. h (suc i) (omega arith) e))
    ∙ cond-false _ _ _ (ne_eqb byte mark (h 0 (omega arith)))

pub cut_last : (mark : ℕ) (front text : List ℕ) → Lacks mark text → last_cut mark (front ++ mark ∷ text) ≡ Some (front, text)
cut_last mark [] text h = ap (cut_at mark mark text) (lacking mark text h) ∙ cond-true _ _ _ (eq-eqb mark mark refl)
cut_last mark (byte ∷ front) text h = ap (cut_at mark byte (front ++ mark ∷ text)) (cut_last mark front text h)

-- takes the clause of `rsplit_once` at an ASCII character
pub cut_char : (c : ℕ) (text : List ℕ) (r : Option (Bor (List ℕ) × Bor (List ℕ)))
    → MatchOption r (RFindsChar c text None)
    (λ x. (i : ℕ) × (j : ℕ) × RFindsChar c text (Some (i, j)) × (x.0.now ≡ take i text) × (x.1.now ≡ drop j text) × (i ≤ j) ×
    (length x.0.now ≡ i) × (length x.1.now + j ≡ length text))
    → c < 128 → option_map (λ x. (x.0.now, x.1.now)) r ≡ last_cut c text
cut_char c text None h low = sym (lacking c text (λ i. NoCharPasses-char c text i h low))
cut_char c text (Some x) h low =
    let i = h.0 in
    let j = h.1 in
    let next : j ≡ i + 1 = omega (arith, h.2.1.ends, len_utf8_ascii c low) in
    let whole : take i text ++ c ∷ drop (i + 1) text ≡ text = ap (λ l. take i text ++ l) (sym (drop_more text i 0 (omega (arith, h.7)) ∙ ap (λ b. b ∷ drop (i + 1) text) (h.2.1.byte low))) ∙ take-append-drop i text in
    let later : Lacks c (drop (i + 1) text) = subst (λ n. Lacks c (drop n text)) next (λ k l e. NoCharPasses-char c (drop j text) k h.2.0 low l e) in
    ap₂ (λ a b. Some (a, b)) h.3 (h.4 ∙ ap (λ n. drop n text) next) ∙ sym (cut_last c (take i text) (drop (i + 1) text) later)
    ∙ ap (last_cut c) whole
