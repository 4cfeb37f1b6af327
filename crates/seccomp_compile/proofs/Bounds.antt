-- How long the code and the paths of a tree of runs are.
use Rattle.std.proofs.Common.{◌≡◌, zero, suc, ℕ, ◌+◌, ◌*◌, ◌^◌, ◌≤◌, ◌⊎◌, inl, inr, Bool, true, false, cond, List, [], ◌∷◌, ◌++◌, length}
use Rattle.std.proofs.Common.{refl, sym, ap, subst, arith, length-append}
use Rattle.std.specs.Prelude.{nat_le}
use Rattle.std.proofs.lemmas.Bool.Decides.{leb_tells}
use Rattle.std.proofs.Math.Nat.{pow-suc}
use Rattle.call_rules.specs.declared.actions.Action.{Action}
use Rattle.seccomp_compile.specs.declared.runs.Run.{Run}
use Rattle.seccomp_compile.specs.declared.tree.Comparison.TheVariants.{Equal}
use Rattle.seccomp_compile.specs.Decisions.{Decision, ends, looks, splits, both, is_end, is_split, LooksInside}
use Rattle.seccomp_compile.specs.Lengths.{jumps, most_of, PathWithin}
use Rattle.seccomp_compile.specs.Runs.{run_decision, AddsRun, below, merged, enclosed, extended, Fills, filled, fills, AddsNumber, Joins}
use Rattle.seccomp_compile.specs.Runs.{one, two, Closes}
use Rattle.seccomp_compile.proofs.Rising.{Each, each_before, each_after, each_append, each_map}

-- the instructions of all runs
abbrev pub total_of : List Run → ℕ
total_of [] = 0
total_of (run ∷ runs) = most_of (run_decision run) + total_of runs

total_append : (runs more : List Run) → total_of (runs ++ more) ≡ total_of runs + total_of more
total_append [] more = omega arith
total_append (run ∷ runs) more = let others = total_append runs more in omega arith

pub most_some : (decision : Decision) → 1 ≤ most_of decision
most_some (ends action) = omega arith
most_some (looks offset mask next) = omega (arith, most_some next)
most_some (splits comparison number miss hit) = omega arith
most_some (both first second action otherwise) = omega arith

total_some : (runs : List Run) → length runs ≤ total_of runs
total_some [] = omega arith
total_some (run ∷ runs) = omega (arith, total_some runs, most_some (run_decision run))

-- Runs that are added.

pub adds_length : (runs after : List Run) (run : Run) → AddsRun runs run after → length after ≤ length runs + 1
adds_length _ _ _ (below runs after run e) = let longer = ap length e in omega (arith, longer, length-append runs (run ∷ []))
adds_length _ _ _ (merged runs after run alike e) =
    let longer = ap length e in
    let before = ap length alike.lowest in
    omega (arith, longer, before, length-append alike.others (run ∷ []), length-append alike.others (alike.above ∷ []))
adds_length _ _ _ (enclosed runs after run joined around at d e) =
    let longer = ap length e in
    let before = ap length around.lowest in
    omega (arith, longer, before, length-append around.others (joined ∷ []), length-append around.others (around.above ∷ around.middle ∷ []))
adds_length _ _ _ (extended runs after run joined more at d e) =
    let longer = ap length e in
    let before = ap length more.lowest in
    omega (arith, longer, before, length-append more.others (joined ∷ []), length-append more.others (more.lowest_run ∷ []))

pub jump_over_one : (ending : Bool) → jumps ending 1 ≡ 0
jump_over_one true = refl
jump_over_one false = refl

pub adds_total : (runs after : List Run) (run : Run) → AddsRun runs run after → total_of after ≤ total_of runs + most_of (run_decision run)
adds_total _ _ _ (below runs after run e) = let longer = ap total_of e in omega (arith, longer, total_append runs (run ∷ []))
adds_total _ _ _ (merged runs after run alike e) =
    let longer = ap total_of e in
    let before = ap total_of alike.lowest in
    omega (arith, longer, before, total_append alike.others (run ∷ []), total_append alike.others (alike.above ∷ []))
adds_total _ _ _ (enclosed runs after run joined around at d e) =
    let longer = ap total_of e in
    let before = ap total_of around.lowest in
    let most = ap most_of d in
    let ending = ap most_of around.run_ends in
    let also = ap most_of around.above_ends in
    omega (arith, longer, before, most, ending, also, jump_over_one (is_end (run_decision around.middle)), total_append around.others (joined ∷ []), total_append around.others (around.above ∷ around.middle ∷ []))
adds_total _ _ _ (extended runs after run joined more at d e) =
    let longer = ap total_of e in
    let before = ap total_of more.lowest in
    let most = ap most_of d in
    omega (arith, longer, before, most, total_append more.others (joined ∷ []), total_append more.others (more.lowest_run ∷ []))

-- what holds of an ending and of a tree that is no comparison holds of a number alone with that tree
abbrev pub IsKeptAlone : (Decision → Type 0) → Type 0
IsKeptAlone P = (number : ℕ) (action : Action) (decision : Decision) → is_split decision ≡ false → P (ends action) → P decision
    → P (splits Equal number (ends action) decision)

module _ (P : Decision → Type 0) (kept : IsKeptAlone P) where
  abbrev pub EachRun : List Run → Type 0
  EachRun runs = Each (λ run. P (run_decision run)) runs

  pub adds_each : (runs after : List Run) (run : Run) → AddsRun runs run after → EachRun runs → P (run_decision run) → EachRun after
  adds_each _ _ _ (below runs after run e) h k = subst EachRun (sym e) (each_append (λ run. P (run_decision run)) runs (run ∷ []) h (k, tt))
  adds_each _ _ _ (merged runs after run alike e) h k =
      subst EachRun (sym e) (each_append (λ run. P (run_decision run)) alike.others (run ∷ [])
      (each_before (λ run. P (run_decision run)) alike.others (alike.above ∷ []) (subst EachRun alike.lowest h)) (k, tt))
  adds_each _ _ _ (enclosed runs after run joined around at d e) h k =
      let all = subst EachRun around.lowest h in
      let two_lowest = each_after (λ run. P (run_decision run)) around.others (around.above ∷ around.middle ∷ []) all in
      subst EachRun (sym e) (each_append (λ run. P (run_decision run)) around.others (joined ∷ [])
      (each_before (λ run. P (run_decision run)) around.others (around.above ∷ around.middle ∷ []) all)
      (subst P (sym d) (kept around.middle.from around.action (run_decision around.middle) around.plain (subst P around.run_ends k) two_lowest.1.0), tt))
  adds_each _ _ _ (extended runs after run joined more at d e) h k =
      let all = subst EachRun more.lowest h in
      subst EachRun (sym e) (each_append (λ run. P (run_decision run)) more.others (joined ∷ [])
      (each_before (λ run. P (run_decision run)) more.others (more.lowest_run ∷ []) all)
      (subst P (sym d) (each_after (λ run. P (run_decision run)) more.others (more.lowest_run ∷ []) all).0, tt))

  pub fills_each : (runs after : List Run) (from : ℕ) (rest : Action) → Fills runs from rest after → EachRun runs → P (ends rest)
      → EachRun after
  fills_each _ _ _ _ (filled runs after from rest e is) h k = subst EachRun (sym is) h
  fills_each _ _ _ _ (fills runs after from rest gap at e adds) h k = adds_each runs after gap adds h (subst P (sym e) k)

  pub number_each : (runs after : List Run) (number : ℕ) (rest : Action) (decision : Decision)
      → AddsNumber runs number decision rest after → EachRun runs → P (ends rest) → P decision → EachRun after
  number_each runs after number rest decision added h k here =
      adds_each added.filled_runs after added.run added.adds (fills_each runs added.filled_runs (number + 1) rest added.fill h k)
      (subst P (sym added.decides) here)

pub fills_length : (runs after : List Run) (from : ℕ) (rest : Action) → Fills runs from rest after → length after ≤ length runs + 1
fills_length _ _ _ _ (filled runs after from rest e is) = let same = ap length is in omega (arith, same)
fills_length _ _ _ _ (fills runs after from rest gap at e adds) = adds_length runs after gap adds

pub fills_total : (runs after : List Run) (from : ℕ) (rest : Action) → Fills runs from rest after → total_of after ≤ total_of runs + 1
fills_total _ _ _ _ (filled runs after from rest e is) = let same = ap total_of is in omega (arith, same)
fills_total _ _ _ _ (fills runs after from rest gap at e adds) = let ending = ap most_of e in omega (arith, ending, adds_total runs after gap adds)

pub number_length : (runs after : List Run) (number : ℕ) (rest : Action) (decision : Decision)
    → AddsNumber runs number decision rest after → length after ≤ length runs + 2
number_length runs after number rest decision added =
    omega (arith, fills_length runs added.filled_runs (number + 1) rest added.fill, adds_length added.filled_runs after added.run added.adds)

pub number_total : (runs after : List Run) (number : ℕ) (rest : Action) (decision : Decision) → AddsNumber runs number decision rest after
    → total_of after ≤ total_of runs + 1 + most_of decision
number_total runs after number rest decision added =
    let same = ap most_of added.decides in
    omega (arith, same, fills_total runs added.filled_runs (number + 1) rest added.fill, adds_total added.filled_runs after added.run added.adds)

-- Joined runs. The first form holds of a tree without a jump, and the second one of a tree with jumps: these are few,
-- since each passes more than fifty instructions.
abbrev pub Fits : ℕ → ℕ → ℕ → Type 0
Fits most runs total = (most + 1 ≤ runs + total) ⊎ ((2 ≤ runs) × (8 * most + 24 ≤ 11 * runs + 9 * total))

jumps_tell : (ending near : Bool) (between : ℕ) → nat_le between 50 ≡ near
    → (jumps ending between ≡ 0) ⊎ ((jumps ending between ≡ 1) × (51 ≤ between))
jumps_tell true near between e = inl refl
jumps_tell false near between e = elim (leb_tells between 50) [
  | inl t ↦ inl (ap (λ b. cond b 0 1) t.0)
  | inr f ↦ inr (ap (λ b. cond b 0 1) f.0, f.1)
]

fits_two : (low high jump low_runs high_runs low_total high_total : ℕ) → 1 ≤ low_runs → low_runs ≤ high_runs → low_runs ≤ low_total
    → high_runs ≤ high_total →
    ((jump ≡ 0) ⊎ ((jump ≡ 1) × (51 ≤ low))) → Fits low low_runs low_total → Fits high high_runs high_total
    → Fits (1 + jump + low + high) (high_runs + low_runs) (high_total + low_total)
fits_two low high jump low_runs high_runs low_total high_total some le few many j l h =
    elim l [
      | inl a ↦ elim h [
        | inl b ↦ elim j [
          | inl none ↦ inl (omega arith)
          | inr far ↦ let long = far.1 in let is = far.0 in inr (omega arith, omega arith)
        ]
        | inr b ↦ elim j [
          | inl none ↦ let more = b.1 in inr (omega arith, omega arith)
          | inr far ↦ let long = far.1 in let is = far.0 in let more = b.1 in inr (omega arith, omega arith)
        ]
      ]
      | inr a ↦ elim h [
        | inl b ↦ elim j [
          | inl none ↦ let some_more = a.0 in let more = a.1 in inr (omega arith, omega arith)
          | inr far ↦ let some_more = a.0 in let more = a.1 in let is = far.0 in inr (omega arith, omega arith)
        ]
        | inr b ↦ elim j [
          | inl none ↦ let more = a.1 in let also = b.1 in inr (omega arith, omega arith)
          | inr far ↦ let more = a.1 in let also = b.1 in let is = far.0 in inr (omega arith, omega arith)
        ]
      ]
    ]

joins_some : (runs : List Run) (run : Run) → Joins runs run → 1 ≤ length runs
joins_some _ _ (one run) = omega arith
joins_some _ _ (two highs lows high low run highs_join lows_join le more at e) =
    omega (arith, length-append highs lows, joins_some highs high highs_join)

pub joins_fit : (runs : List Run) (run : Run) → Joins runs run → Fits (most_of (run_decision run)) (length runs) (total_of runs)
joins_fit _ _ (one run) = inl (omega arith)
joins_fit _ _ (two highs lows high low run highs_join lows_join le more at e) =
    let low_most = most_of (run_decision low) in
    let high_most = most_of (run_decision high) in
    let jump = jumps (is_end (run_decision high)) low_most in
    let whole : most_of (run_decision run) ≡ 1 + jump + low_most + high_most = ap most_of e in
    let both_fit = fits_two low_most high_most jump (length lows) (length highs) (total_of lows) (total_of highs) (joins_some lows low lows_join) le (total_some lows) (total_some highs)
    (jumps_tell (is_end (run_decision high)) (nat_le low_most 50) low_most refl) (joins_fit lows low lows_join) (joins_fit highs high highs_join) in
    subst (λ most. Fits most (length (highs ++ lows)) (total_of (highs ++ lows))) (sym whole)
    (subst (λ runs. Fits (1 + jump + low_most + high_most) runs (total_of (highs ++ lows))) (sym (length-append highs lows))
    (subst (λ total. Fits (1 + jump + low_most + high_most) (length highs + length lows) total) (sym (total_append highs lows)) both_fit))

pub path_more : (decision : Decision) (limit more : ℕ) → limit ≤ more → PathWithin limit decision → PathWithin more decision
path_more (ends action) limit more le h = omega (arith, le, h)
path_more (looks offset mask next) limit more le h = (h.0, h.1, omega (arith, h.2))
path_more (splits comparison number miss hit) limit more le h = (h.0, h.1, h.2, omega (arith, h.3))
path_more (both first second action otherwise) limit more le h = (h.0, h.1, omega (arith, h.2), omega (arith, h.3))

pub joins_path : (runs : List Run) (run : Run) (limit levels : ℕ) → Joins runs run
    → Each (λ run. PathWithin limit (run_decision run)) runs → length runs ≤ 2 ^ levels → PathWithin (limit + 2 * levels) (run_decision run)
joins_path _ _ limit levels (one run) h le = path_more (run_decision run) limit (limit + 2 * levels) (omega arith) h.0
joins_path _ _ limit zero (two highs lows high low run highs_join lows_join le more at e) h few =
    absurd (omega (arith, few, length-append highs lows, joins_some highs high highs_join, joins_some lows low lows_join))
joins_path _ _ limit (suc levels) (two highs lows high low run highs_join lows_join le more at e) h few =
    let both_few = length-append highs lows in
    let halves : 2 ^ suc levels ≡ 2 ^ levels * 2 = pow-suc 2 levels in
    subst (PathWithin (limit + 2 * suc levels)) (sym e) (
      limit + 2 * levels,
      joins_path lows low limit levels lows_join (each_after (λ run. PathWithin limit (run_decision run)) highs lows h)
          (omega (arith, few, both_few, halves)),
      joins_path highs high limit levels highs_join (each_before (λ run. PathWithin limit (run_decision run)) highs lows h)
          (omega (arith, few, both_few, halves)),
      omega arith,
    )

pub joins_inside : (runs : List Run) (run : Run) → Joins runs run → Each (λ run. LooksInside (run_decision run)) runs
    → LooksInside (run_decision run)
joins_inside _ _ (one run) h = h.0
joins_inside _ _ (two highs lows high low run highs_join lows_join le more at e) h =
    subst LooksInside (sym e)
    (joins_inside lows low lows_join (each_after (λ run. LooksInside (run_decision run)) highs lows h), joins_inside highs high highs_join (each_before (λ run. LooksInside (run_decision run)) highs lows h))

-- All runs.

pub closes_fit : (runs : List Run) (rest : Action) (decision : Decision) → Closes runs rest decision
    → (count total : ℕ) × (count ≤ length runs + 1) × (total ≤ total_of runs + 1) × Fits (most_of decision) count total
closes_fit runs rest decision c = (
  length c.all,
  total_of c.all,
  fills_length runs c.all 0 rest c.fill,
  fills_total runs c.all 0 rest c.fill,
  subst (λ decision. Fits (most_of decision) (length c.all) (total_of c.all)) c.decides (joins_fit c.all c.run c.joined),
)

-- the paths of a tree, where a comparison may be in front of it
abbrev pub IsShort : ℕ → Decision → Type 0
IsShort limit decision = (is_split decision ≡ false → PathWithin limit decision) × PathWithin (limit + 2) decision

pub short_of : (limit : ℕ) (decision : Decision) → PathWithin limit decision → IsShort limit decision
short_of limit decision h = (λ plain. h, path_more decision limit (limit + 2) (omega arith) h)

true_not_false : true ≡ false → ⊥
true_not_false e = cc

pub short_alone : (limit : ℕ) → 1 ≤ limit → IsKeptAlone (IsShort limit)
short_alone limit some number action decision plain ending h =
    (λ split. absurd (true_not_false split), (limit, some, h.0 plain, omega arith))

pub inside_alone : IsKeptAlone LooksInside
inside_alone number action decision plain ending h = (tt, h)

pub closes_path : (runs : List Run) (rest : Action) (limit levels : ℕ) (decision : Decision) → Closes runs rest decision
    → Each (λ run. IsShort limit (run_decision run)) runs → 1 ≤ limit → length runs + 1 ≤ 2 ^ levels
    → PathWithin (limit + 2 + 2 * levels) decision
closes_path runs rest limit levels decision c h le few =
    let all = fills_each (IsShort limit) (short_alone limit le) runs c.all 0 rest c.fill h (short_of limit (ends rest) le) in
    subst (PathWithin (limit + 2 + 2 * levels)) c.decides
    (joins_path c.all c.run (limit + 2) levels c.joined
    (each_map (λ run. IsShort limit (run_decision run)) (λ run. PathWithin (limit + 2) (run_decision run)) c.all
    (λ run short. short.1) all)
    (omega (arith, few, fills_length runs c.all 0 rest c.fill)))

pub closes_inside : (runs : List Run) (rest : Action) (decision : Decision) → Closes runs rest decision
    → Each (λ run. LooksInside (run_decision run)) runs → LooksInside decision
closes_inside runs rest decision c h =
    subst LooksInside c.decides (joins_inside c.all c.run c.joined (fills_each LooksInside inside_alone runs c.all 0 rest c.fill h tt))
