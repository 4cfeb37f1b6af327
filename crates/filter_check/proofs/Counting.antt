-- A program has one number of paths.
use Rattle.std.proofs.Common.{◌≡◌, ℕ, zero, suc, ◌+◌, ◌<◌, ◌≤◌, List, [], ◌∷◌, length, Some, refl, sym, ap, ◌∙◌, subst, arith}
use Rattle.std.specs.Prelude.{slice_get, Contains, ◌≢◌}
use Rattle.std.proofs.lemmas.Option.{slice_get_within}
use Rattle.seccomp_compile.specs.bpf_code.declared.machine.Insn.{Insn}
use Rattle.filter_check.specs.filter_paths.Traces.{IsPath, EachOnce, HasPaths, HasMorePaths}
use Rattle.filter_check.proofs.Told.{found_of, contains_from}

without : List (List ℕ) → ℕ → List (List ℕ)
without [] k = []
without (x ∷ xs) zero = xs
without (x ∷ xs) (suc k) = x ∷ without xs k

one_less : (xs : List (List ℕ)) (k : ℕ) → k < length xs → length xs ≡ suc (length (without xs k))
unfolding without
one_less [] k lt = absurd (omega (arith, lt))
one_less (x ∷ xs) zero lt = refl
one_less (x ∷ xs) (suc k) lt = ap suc (one_less xs k (omega (arith, lt)))

-- the element at another place stays
stays : (xs : List (List ℕ)) (k j : ℕ) (path : List ℕ) → j ≢ k → slice_get xs j ≡ Some path
    → (i : ℕ) × (slice_get (without xs k) i ≡ Some path)
unfolding without
stays [] k j path ne e = (j, e)
stays (x ∷ xs) zero zero path ne e = absurd (ne refl)
stays (x ∷ xs) zero (suc j) path ne e = (j, e)
stays (x ∷ xs) (suc k) zero path ne e = (0, e)
stays (x ∷ xs) (suc k) (suc j) path ne e = let more = stays xs k j path (λ same. ne (ap suc same)) e in (suc more.0, more.1)

some_path : (x y : List ℕ) → Some x ≡ Some y → x ≡ y
some_path x y e = cc

once_behind : (x : List ℕ) (xs : List (List ℕ)) → EachOnce (x ∷ xs) → EachOnce xs
once_behind x xs once one other path e f = let h = once (suc one) (suc other) path e f in omega (arith, h)

-- if each path occurs once, and occurs in the other list, there are at most as many as in that list
at_most : (xs ys : List (List ℕ)) → EachOnce xs
    → ((k : ℕ) (path : List ℕ) → slice_get xs k ≡ Some path → (j : ℕ) × (slice_get ys j ≡ Some path)) → length xs ≤ length ys
at_most [] ys once inside = omega arith
at_most (x ∷ xs) ys once inside =
    let here = inside 0 x refl in
    let rest = at_most xs (without ys here.0) (once_behind x xs once) (λ k path e.
    let there = inside (suc k) path e in
    stays ys here.0 there.0 path (λ same.
    let p : path ≡ x = some_path path x (sym there.1 ∙ ap (slice_get ys) same ∙ here.1) in
    let h = once 0 (suc k) x refl (e ∙ ap Some p) in
    absurd (omega (arith, h))) there.1) in
    let less = one_less ys here.0 (slice_get_within ys here.0 x here.1) in
    omega (arith, rest, less)

few_paths : (code : List Insn) (some : List (List ℕ)) (count : ℕ) → EachOnce some
    → ((path : List ℕ) → Contains some path → IsPath code path) → HasPaths code count → length some ≤ count
few_paths code some count once are (paths, all, e) =
    subst (λ n. length some ≤ n) e
    (at_most some paths once (λ k path at. found_of paths path (all.all_paths path (are path (contains_from some k path at)))))

pub one_count : (code : List Insn) (one other : ℕ) → HasPaths code one → HasPaths code other → one ≡ other
one_count code one other h g =
    let up = few_paths code h.0 other h.1.distinct h.1.only_paths g in
    let down = few_paths code g.0 one g.1.distinct g.1.only_paths h in
    let e = h.2 in let f = g.2 in omega (arith, up, down, e, f)

pub not_more : (code : List Insn) (count most : ℕ) → HasPaths code count → count ≤ most → HasMorePaths code most → ⊥
not_more code count most h few more = let up = few_paths code more.0 count more.1 more.2 h in let lt = more.3 in omega (arith, up, few, lt)
