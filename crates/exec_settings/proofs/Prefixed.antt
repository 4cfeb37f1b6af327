-- The place where a word may be cut: after its prefixes, which are ASCII.
use Rattle.std.proofs.Common.{◌≡◌, ℕ, suc, zero, ◌<◌, ◌≤◌, Bool, true, false, cond, List, [], ◌∷◌, ◌++◌, length, get_or, arith, subst, refl, ap}
use Rattle.std.specs.Prelude.{◌||◌, ◌&&◌, ◌==◌}
use Rattle.std.specs.List.{prefix_len}
use Rattle.std.specs.Str.{IsUtf8, IsCharBoundary}
use Rattle.std.proofs.lemmas.Bool.Decides.{nat_tests}
use Rattle.std.proofs.lemmas.List.Sums.{prefix_len_passes, prefix_len-le-length}
use Rattle.std.proofs.lemmas.Str.{IsCharBoundary-start, IsCharBoundary-after_ascii}
use Rattle.exec_settings.specs.Commands.{is_prefix}
use Rattle.exec_settings.specs.KnownCommands.{count_behind, known_count, may_follow, stands_once}

is_prefix-ascii : (byte : ℕ) → is_prefix byte ≡ true → byte < 128
is_prefix-ascii byte e = grind (arith, nat_tests)

pub prefix_boundary : (bs : List ℕ) (n : ℕ) → IsUtf8 bs → n ≡ prefix_len is_prefix bs → IsCharBoundary bs n
prefix_boundary bs zero u e = IsCharBoundary-start bs u
prefix_boundary bs (suc k) u e =
    let lt : k < prefix_len is_prefix bs = omega arith in
    let in_text : k < length bs = omega (arith, prefix_len-le-length is_prefix bs) in
    subst (IsCharBoundary bs) (omega arith)
    (IsCharBoundary-after_ascii bs k u in_text (is_prefix-ascii _ (prefix_len_passes is_prefix bs k 0 lt)))

-- the prefixes of a known systemd are ASCII too
follows-ascii : (byte : ℕ) (x y z : Bool) → ((stands_once byte && x) || ((byte == 43 && y) || (byte == 33 && z))) ≡ true → byte < 128
follows-ascii byte x y z h = grind (arith, nat_tests)

within_one : (n m : ℕ) (v : Bool) → n ≤ m → cond v (suc n) zero ≤ suc m
within_one n m true le = omega (arith, le)
within_one n m false le = omega arith

count_within : (before text : List ℕ) → count_behind before text ≤ length text
count_within before [] = omega arith
count_within before (byte ∷ text) = within_one (count_behind (before ++ byte ∷ []) text) (length text) (may_follow before byte)
    (count_within (before ++ byte ∷ []) text)

-- a byte that may follow, and the rest
first_or_later : (before : List ℕ) (byte : ℕ) (text : List ℕ) (k : ℕ) → may_follow before byte ≡ true
    → k < suc (count_behind (before ++ byte ∷ []) text)
    → ((n : ℕ) → n < count_behind (before ++ byte ∷ []) text → get_or text n 0 < 128) → get_or (byte ∷ text) k 0 < 128
first_or_later before byte text zero follows lt later = follows-ascii byte _ _ _ follows
first_or_later before byte text (suc k) follows lt later = later k (omega (arith, lt))

count_ascii : (before text : List ℕ) (k : ℕ) → k < count_behind before text → get_or text k 0 < 128
count_ascii before [] k lt = let no : ⊥ = omega (arith, lt) in absurd no
count_ascii before (byte ∷ text) k lt =
    elim (may_follow before byte) as
    (λ v. may_follow before byte ≡ v → k < cond v (suc (count_behind (before ++ byte ∷ []) text)) zero → get_or (byte ∷ text) k 0 < 128) [
      | true ↦ λ follows lt. first_or_later before byte text k follows lt (λ n h. count_ascii (before ++ byte ∷ []) text n h)
      | false ↦ λ e lt. let no : ⊥ = omega (arith, lt) in absurd no
    ]
    refl lt

pub known_boundary : (bs : List ℕ) (n : ℕ) → IsUtf8 bs → n ≡ known_count bs → IsCharBoundary bs n
known_boundary bs zero u e = IsCharBoundary-start bs u
known_boundary bs (suc k) u e =
    let lt : k < known_count bs = omega (arith, e) in
    let in_text : k < length bs = omega (arith, lt, count_within [] bs) in
    subst (IsCharBoundary bs) (omega arith) (IsCharBoundary-after_ascii bs k u in_text (count_ascii [] bs k lt))
