-- The texts of paths give the folder of a path.
use Rattle.std.proofs.Common.{◌≡◌, ◌≢◌, ℕ, ◌+◌, ◌-◌, ◌<◌, ◌≤◌, Bool, true, false, inl, inr, eqb, Some, None, List, [], ◌∷◌, ◌++◌, length}
use Rattle.std.proofs.Common.{take, drop, get_or, zero, suc, refl, sym, ap, ◌∙◌, arith, lit<, append_assoc, append-nil}
use Rattle.std.specs.List.{list_any}
use Rattle.std.specs.Option.{option_map}
use Rattle.std.specs.Str.{NoCharPasses}
use Rattle.std.specs.Str.Pattern.{RFindsChar}
use Rattle.std.proofs.lemmas.Bool.{and_parts, or_parts, false≢true, cases_lt, eq-eqb, not-true}
use Rattle.std.proofs.lemmas.List.{length-append, get_or-drop, length-drop}
use Rattle.std.proofs.lemmas.Str.Pattern.{NoCharPasses-char}
use Rattle.std.proofs.Math.Seq.{take-append_seam}
use Rattle.abs_path.specs.Paths.{Path, tail_of, is_part, is_normal}
use Rattle.site_table.specs.Paths.{parent_of}
use denote.Ref.{Bor}

abbrev is_slash : ℕ → Bool
is_slash byte = eqb byte 47

pub normal_root : (path : Path) → length (tail_of path) ≡ 0 → is_normal path ≡ true
normal_root [] h = refl
normal_root (part ∷ parts) h = absurd (omega arith)

part_slashless : (part : List ℕ) → is_part part ≡ true → list_any is_slash part ≡ false
part_slashless part h = not-true _ (and_parts _ _ (and_parts _ _ h).0).0

-- a path other than the root is its folder and one more part
pub folder_and_last : (part : List ℕ) (parts : Path) → is_normal (part ∷ parts) ≡ true
    → (last : List ℕ) × (list_any is_slash last ≡ false) × (tail_of (part ∷ parts)
    ≡ tail_of (take (length parts) (part ∷ parts)) ++ 47 ∷ last)
folder_and_last part [] h = (part, part_slashless part (and_parts (is_part part) true h).0, append-nil (47 ∷ part))
folder_and_last part (next ∷ parts) h =
    let more = folder_and_last next parts (and_parts (is_part part) (is_normal (next ∷ parts)) h).1 in
    (more.0, more.1, ap (λ text. (47 ∷ part) ++ text) more.2 ∙ sym (append_assoc (47 ∷ part) (tail_of (take (length parts) (next ∷ parts))) (47 ∷ more.0)))

at_seam : (front : List ℕ) (byte : ℕ) (rest : List ℕ) → get_or (front ++ byte ∷ rest) (length front) 0 ≡ byte
at_seam [] byte rest = refl
at_seam (x ∷ front) byte rest = at_seam front byte rest

behind_seam : (front : List ℕ) (byte : ℕ) (rest : List ℕ) (k : ℕ) → get_or (front ++ byte ∷ rest) (length front + suc k) 0 ≡ get_or rest k 0
behind_seam [] byte rest k = let e : 0 + suc k ≡ suc k = omega arith in ap (λ n. get_or (byte ∷ rest) n 0) e
behind_seam (x ∷ front) byte rest k =
    let e : length (x ∷ front) + suc k ≡ suc (length front + suc k) = omega arith in
    ap (λ n. get_or (x ∷ (front ++ byte ∷ rest)) n 0) e ∙ behind_seam front byte rest k

none_at : (text : List ℕ) (k : ℕ) → list_any is_slash text ≡ false → k < length text → get_or text k 0 ≢ 47
none_at [] k clean lt = absurd (omega arith)
none_at (x ∷ text) zero clean lt = λ e. false≢true (sym (or_parts (is_slash x) (list_any is_slash text) clean).0 ∙ eq-eqb x 47 e)
none_at (x ∷ text) (suc k) clean lt = none_at text k (or_parts (is_slash x) (list_any is_slash text) clean).1 (omega arith)

-- the text before the last slash is the text before a last part without a slash
last_slash : (front last : List ℕ) (i : ℕ) → list_any is_slash last ≡ false → get_or (front ++ 47 ∷ last) i 0 ≡ 47
    → i < length (front ++ 47 ∷ last)
    → ((k : ℕ) → i < k → k < length (front ++ 47 ∷ last) → get_or (front ++ 47 ∷ last) k 0 ≢ 47) → take i (front ++ 47 ∷ last) ≡ front
last_slash front last i clean here within after =
    elim (cases_lt i (length front)) [
      | inl before ↦ absurd (after (length front) before (omega (arith, length-append front (47 ∷ last))) (at_seam front 47 last))
      | inr not_before ↦ elim (cases_lt (length front) i) [
        | inl behind ↦
            let k : ℕ = i - length front - 1 in
            let place : length front + suc k ≡ i = omega arith in
            absurd (none_at last k clean (omega (arith, length-append front (47 ∷ last)))
            (sym (behind_seam front 47 last k) ∙ ap (λ n. get_or (front ++ 47 ∷ last) n 0) place ∙ here))
        | inr not_behind ↦ let place : i ≡ length front = omega arith in ap (λ n. take n (front ++ 47 ∷ last)) place ∙ take-append_seam front (47 ∷ last)
      ]
    ]

-- `rsplit_once` cuts a path at its last slash
pub before_last : (path : Path) (text : List ℕ) (front back : Bor (List ℕ)) → is_normal path ≡ true → text ≡ tail_of path
    → (i : ℕ) × (j : ℕ) × RFindsChar 47 text (Some (i, j)) × (front.now ≡ take i text) × (back.now ≡ drop j text) × (i ≤ j) ×
    (length front.now ≡ i) × (length back.now + j ≡ length text)
    → Some front.now ≡ option_map tail_of (parent_of path)
before_last [] text front back normal same h =
    let ends : h.1 ≡ h.0 + 1 = h.2.1.ends in
    let none : length text ≡ 0 = ap length same in
    absurd (omega (arith, h.7))
before_last (part ∷ parts) text front back normal same h =
    let i = h.0 in
    let j = h.1 in
    let after_it = h.2.0 in
    let at = h.2.1 in
    let ends : j ≡ i + 1 = at.ends in
    let here : get_or text i 0 ≡ 47 = at.byte (lit< tt) in
    let split = folder_and_last part parts normal in
    let whole : text ≡ tail_of (take (length parts) (part ∷ parts)) ++ 47 ∷ split.0 = same ∙ split.2 in
    let size : length text ≡ length (tail_of (take (length parts) (part ∷ parts)) ++ 47 ∷ split.0) = ap length whole in
    ap Some (h.3 ∙ ap (take i) whole
    ∙ last_slash (tail_of (take (length parts) (part ∷ parts))) split.0 i split.1 (ap (λ t. get_or t i 0) (sym whole) ∙ here)
    (omega (arith, h.7))
    (λ k low high e.
    let place : j + (k - j) ≡ k = omega arith in
    NoCharPasses-char 47 (drop j text) (k - j) after_it (lit< tt) (omega (arith, length-drop j text))
    (get_or-drop j text (k - j) 0 ∙ ap (λ n. get_or text n 0) place ∙ ap (λ t. get_or t k 0) whole ∙ e)))

pub no_slash : (path : Path) (text : List ℕ) → text ≡ tail_of path → NoCharPasses (λ d. eqb d 47) text
    → None ≡ option_map tail_of (parent_of path)
no_slash [] text same none = refl
no_slash (part ∷ parts) text same none =
    let size : length text ≡ length (tail_of (part ∷ parts)) = ap length same in
    absurd (NoCharPasses-char 47 text 0 none (lit< tt) (omega arith) (ap (λ t. get_or t 0 0) same))
