-- A text may be cut beside an ASCII byte.
use Rattle.std.proofs.Common.{◌≡◌, ℕ, suc, zero, ◌-◌, ◌<◌, true, List, length, get_or, reverse, arith, subst}
use Rattle.std.specs.List.{prefix_len, suffix_len}
use Rattle.std.specs.Str.{IsUtf8, IsCharBoundary}
use Rattle.std.proofs.lemmas.Bool.Decides.{nat_tests}
use Rattle.std.proofs.lemmas.List.{get_or-reverse}
use Rattle.std.proofs.lemmas.List.Sums.{prefix_len_passes, prefix_len-le-length, suffix_len-le-length}
use Rattle.std.proofs.lemmas.Str.{IsCharBoundary-start, IsCharBoundary-end, IsCharBoundary-after_ascii, IsCharBoundary-before_ascii}
use Rattle.unit_grammar.specs.Spaces.{is_white}

is_white-ascii : (b : ℕ) → is_white b ≡ true → b < 128
is_white-ascii b e = grind (arith, nat_tests)

-- the text may be cut after its leading white space
pub leading_boundary : (bs : List ℕ) (n : ℕ) → IsUtf8 bs → n ≡ prefix_len is_white bs → IsCharBoundary bs n
leading_boundary bs zero u e = IsCharBoundary-start bs u
leading_boundary bs (suc k) u e =
    let lt : k < prefix_len is_white bs = omega arith in
    let in_text : k < length bs = omega (arith, prefix_len-le-length is_white bs) in
    subst (IsCharBoundary bs) (omega arith)
    (IsCharBoundary-after_ascii bs k u in_text (is_white-ascii _ (prefix_len_passes is_white bs k 0 lt)))

-- the text may be cut before its trailing white space
pub trailing_boundary : (bs : List ℕ) (n : ℕ) → n ≡ suffix_len is_white bs → IsCharBoundary bs (length bs - n)
trailing_boundary bs zero e = subst (IsCharBoundary bs) (omega arith) (IsCharBoundary-end bs)
trailing_boundary bs (suc k) e =
    let lt : k < suffix_len is_white bs = omega arith in
    let in_text : k < length bs = omega (arith, suffix_len-le-length is_white bs) in
    let white = prefix_len_passes is_white (reverse bs) k 0 lt in
    let here : is_white (get_or bs (length bs - 1 - k) 0) ≡ true = subst (λ b. is_white b ≡ true) (get_or-reverse bs k 0 in_text) white in
    let same : length bs - 1 - k ≡ length bs - suc k = omega arith in
    IsCharBoundary-before_ascii bs (length bs - suc k) (omega arith)
    (is_white-ascii _ (subst (λ i. is_white (get_or bs i 0) ≡ true) same here))
