-- The dashes of a prefix.
use Rattle.std.proofs.Common.{◌≡◌, ◌≢◌, ℕ, ◌+◌, ◌-◌, ◌<◌, ◌≤◌, Bool, true, eqb, ltb, Some, List, length, take, drop, get_or, ap, ◌∙◌, arith}
use Rattle.std.specs.Prelude.{not, ◌&&◌}
use Rattle.std.specs.List.{suffix_len}
use Rattle.std.specs.Str.{IsUtf8, IsCharBoundary, NoCharPasses}
use Rattle.std.specs.Str.Pattern.{RFindsChar}
use Rattle.std.proofs.lemmas.Bool.{and_parts, ltb-true, eqb-true, ne_eqb, eq-eqb}
use Rattle.std.proofs.lemmas.List.{get_or-drop, length-drop}
use Rattle.std.proofs.lemmas.List.Sums.{suffix_len_is}
use Rattle.std.proofs.lemmas.Str.{IsCharBoundary-after_ascii}
use Rattle.std.proofs.lemmas.Str.Pattern.{NoCharPasses-char}
use Rattle.std.proofs.Common.{lit<}
use Rattle.unit_names.specs.Unescaping.{dash}
use Rattle.unit_names.specs.Folders.{is_inner_dash}
use Rattle.unit_names.specs.Specifiers.{last_part}
use denote.Ref.{Bor}

-- a prefix may be cut after a dash
pub behind_dash : (prefix : List ℕ) (place : ℕ) → IsUtf8 prefix → is_inner_dash prefix place ≡ true → IsCharBoundary prefix (place + 1)
behind_dash prefix place utf8 h =
    let both = and_parts (ltb 0 place && ltb (place + 1) (length prefix)) (eqb (get_or prefix place 0) dash) h in
    let sides = and_parts (ltb 0 place) (ltb (place + 1) (length prefix)) both.0 in
    let inside : place + 1 < length prefix = ltb-true (place + 1) (length prefix) sides.1 in
    let same : get_or prefix place 0 ≡ dash = eqb-true (get_or prefix place 0) dash both.1 in
    IsCharBoundary-after_ascii prefix place utf8 (omega arith) (omega (arith, same))

abbrev is_no_dash : ℕ → Bool
is_no_dash byte = not (eqb byte dash)

passes_for : (byte : ℕ) → byte ≢ dash → is_no_dash byte ≡ true
passes_for byte apart = ap not (ne_eqb byte dash apart)

-- the last part begins at this place
last_from : (prefix : List ℕ) (place : ℕ) → place ≤ length prefix → suffix_len is_no_dash prefix ≡ length prefix - place
    → drop place prefix ≡ last_part prefix
last_from prefix place within size = ap (λ n. drop n prefix) (omega (arith, size))

pub without_dash : (prefix : List ℕ) → NoCharPasses (λ d. eqb d dash) prefix → prefix ≡ last_part prefix
without_dash prefix none =
    last_from prefix 0 (omega arith)
    (suffix_len_is is_no_dash prefix 0 0 (omega arith)
    (λ k low high. passes_for (get_or prefix k 0) (NoCharPasses-char dash prefix k none (lit< tt) high)) (λ h. absurd (omega arith)))

-- `rsplit_once` cuts a prefix at its last dash
pub behind_last : (prefix : List ℕ) (front back : Bor (List ℕ))
    → (i : ℕ) × (j : ℕ) × RFindsChar dash prefix (Some (i, j)) × (front.now ≡ take i prefix) × (back.now ≡ drop j prefix) × (i ≤ j) ×
    (length front.now ≡ i) × (length back.now + j ≡ length prefix) → back.now ≡ last_part prefix
behind_last prefix front back h =
    let i = h.0 in
    let j = h.1 in
    let after_it = h.2.0 in
    let at = h.2.1 in
    let ends : j ≡ i + 1 = at.ends in
    let within : j ≤ length prefix = omega (arith, h.7) in
    let same : get_or prefix i 0 ≡ dash = at.byte (lit< tt) in
    h.4
    ∙ last_from prefix j within
    (suffix_len_is is_no_dash prefix j 0 within
    (λ k low high. passes_for (get_or prefix k 0)
    (λ e. NoCharPasses-char dash (drop j prefix) (k - j) after_it (lit< tt) (omega (arith, length-drop j prefix))
    (get_or-drop j prefix (k - j) 0 ∙ ap (λ n. get_or prefix n 0) (omega arith) ∙ e)))
    (λ some. ap not (eq-eqb (get_or prefix (j - 1) 0) dash (ap (λ n. get_or prefix n 0) (omega arith) ∙ same))))
