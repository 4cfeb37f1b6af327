-- Runs that are added one below the other.
use Rattle.std.proofs.Common.{◌≡◌, suc, ℕ, ◌+◌, ◌-◌, ◌^◌, ◌<◌, ◌≤◌, ◌⊎◌, inl, inr, cond, eqb, false, List, [], ◌∷◌, ◌++◌, length, take}
use Rattle.std.proofs.Common.{drop, Option, Some, refl, sym, ap, ◌∙◌, subst, arith, length-append, append_assoc}
use Rattle.std.specs.Prelude.{slice_get}
use Rattle.std.specs.Option.{option_to_list}
use Rattle.std.specs.List.{list_any}
use Rattle.std.proofs.lemmas.Bool.{cases_lt}
use Rattle.std.proofs.lemmas.Bool.Decides.{leb_tells, eqb_tells, nat_tests}
use Rattle.std.proofs.lemmas.List.{take_at}
use Rattle.call_rules.specs.bpf_code.declared.machine.CallData.{CallData}
use Rattle.call_rules.specs.declared.actions.Action.{Action}
use Rattle.seccomp_compile.specs.declared.runs.Run.{Run}
use Rattle.seccomp_compile.specs.declared.tree.Comparison.TheVariants.{AtLeast, Equal}
use Rattle.seccomp_compile.specs.Decisions.{Decision, splits, decide}
use Rattle.seccomp_compile.specs.Runs.{floor_of, run_decision, AddsRun, below, merged, enclosed, Encloses, extended, Extends, Fills, filled}
use Rattle.seccomp_compile.specs.Runs.{fills, AddsNumber, Joins, one, two, JoinsLowest, Closes}
use Rattle.seccomp_compile.specs.Rules.{Wanted, DecidesFrom}
use Rattle.seccomp_compile.proofs.Rising.{Each, each_last, none_above, none_below}

same_run : (a b : Run) → ◌≡◌ {A = Option Run} (Some a) (Some b) → a ≡ b
same_run a b e = cc

pub floor_last : (to : ℕ) (runs : List Run) (run : Run) → slice_get runs (length runs - 1) ≡ Some run → floor_of to runs ≡ run.from
floor_last to [] run e = cc
floor_last to (first ∷ []) run e = ap (λ run. run.from) (same_run first run e)
floor_last to (first ∷ second ∷ runs) run e =
    let back : length (first ∷ second ∷ runs) - 1 ≡ suc (length (second ∷ runs) - 1) = omega arith in
    floor_last first.from (second ∷ runs) run (sym (ap (slice_get (first ∷ second ∷ runs)) back) ∙ e)

pub take_others : (runs others : List Run) (run : Run) (count : ℕ) → runs ≡ others ++ run ∷ [] → count ≡ length runs
    → take (count - 1) runs ≡ others
take_others runs others run count e n =
    let longer = ap length e in
    ap (take (count - 1)) e ∙ take_at others (run ∷ []) (count - 1) (omega (arith, longer, length-append others (run ∷ [])))

pub popped : (runs after : List Run) (o : Option Run) (run : Run) → runs ≡ after ++ option_to_list o → o ≡ Some run
    → runs ≡ after ++ run ∷ []
popped runs after o run e is = e ∙ ap (λ o. after ++ option_to_list o) is

last_same : (runs others : List Run) (run other : Run) → runs ++ run ∷ [] ≡ others ++ other ∷ [] → (runs ≡ others) × (run ≡ other)
last_same [] [] run other e = (refl, cc)
last_same [] (first ∷ others) run other e = let longer = ap length e in absurd (omega (arith, longer, length-append others (other ∷ [])))
last_same (first ∷ runs) [] run other e = let longer = ap length e in absurd (omega (arith, longer, length-append runs (run ∷ [])))
last_same (first ∷ runs) (second ∷ others) run other e =
    let same : first ≡ second = cc in
    let rest = last_same runs others run other (ap (drop 1) e) in
    (ap (λ runs. first ∷ runs) rest.0 ∙ ap (λ run. run ∷ others) same, rest.1)

pub enclosed_added : (runs fewer least after : List Run) (run joined middle : Run) (o : Option Run) (count : ℕ)
    (around : Encloses runs run) → runs ≡ fewer ++ option_to_list o → o ≡ Some middle → count ≡ length fewer
    → least ≡ take (count - 1) fewer →
    joined.from ≡ run.from → run_decision joined ≡ splits Equal middle.from (run_decision run) (run_decision middle)
    → after ≡ least ++ joined ∷ [] → AddsRun runs run after
enclosed_added runs fewer least after run joined middle o count around e is counted taken from d added =
    let same = last_same fewer (around.others ++ around.above ∷ []) middle around.middle
    (sym (popped runs fewer o middle e is) ∙ around.lowest ∙ sym (append_assoc around.others (around.above ∷ []) (around.middle ∷ []))) in
    enclosed runs after run joined around from
    (d ∙ ap (λ middle. splits Equal middle.from (run_decision run) (run_decision middle)) same.1
    ∙ ap (λ ending. splits Equal around.middle.from ending (run_decision around.middle)) around.run_ends)
    (added ∙ ap (λ runs. runs ++ joined ∷ []) (taken ∙ take_others fewer around.others around.above count same.0 counted))

pub extended_added : (runs fewer after : List Run) (run joined lowest : Run) (o : Option Run) (more : Extends runs run)
    → runs ≡ fewer ++ option_to_list o → o ≡ Some lowest → joined.from ≡ run.from → run_decision joined ≡ run_decision lowest →
    after ≡ fewer ++ joined ∷ [] → AddsRun runs run after
extended_added runs fewer after run joined lowest o more e is from d added =
    let same = last_same fewer more.others lowest more.lowest_run (sym (popped runs fewer o lowest e is) ∙ more.lowest) in
    extended runs after run joined more from (d ∙ ap run_decision same.1) (added ∙ ap (λ runs. runs ++ joined ∷ []) same.0)

pub joined_lowest : (runs middle after : List Run) (count low_count high_count : ℕ) (low high run : Run)
    → JoinsLowest runs middle low_count low → JoinsLowest middle after high_count high →
    low_count ≤ high_count → high_count ≤ low_count + 1 → low_count + high_count ≡ count → run.from ≡ low.from
    → run_decision run ≡ splits AtLeast high.from (run_decision low) (run_decision high) → JoinsLowest runs after count run
joined_lowest runs middle after count low_count high_count low high run l h le more all from decides = record {
  taken = h.taken ++ l.taken;
  split = l.split ∙ ap (λ runs. runs ++ l.taken) h.split ∙ append_assoc after h.taken l.taken;
  counted = omega (arith, l.counted, h.counted, length-append h.taken l.taken);
  joined = two h.taken l.taken high low run h.joined l.joined (omega (arith, l.counted, h.counted))
      (omega (arith, l.counted, h.counted)) from decides;
}

-- The runs stand one below the other, from one number up to the other, each for its own words.
abbrev pub Tile : Wanted → List Run → ℕ → ℕ → Type 0
Tile wanted [] from to = from ≡ to
Tile wanted (run ∷ runs) from to = DecidesFrom wanted run.from to (run_decision run) × Tile wanted runs from run.from

not_same : (a b : ℕ) → a < b → eqb a b ≡ false
not_same a b lt = grind (arith, nat_tests)

above_alone : (word middle above : ℕ) → above ≡ middle + 1 → middle ≤ word → (word ≡ middle → ⊥) → above ≤ word
above_alone word middle above e le other = elim (cases_lt word (middle + 1)) [
  | inl lt ↦ absurd (other (omega arith))
  | inr more ↦ omega arith
]

module _ (wanted : Wanted) where
  tile_floor : (runs : List Run) (from to : ℕ) → Tile wanted runs from to → floor_of to runs ≡ from
  tile_floor [] from to h = sym h
  tile_floor (run ∷ runs) from to h = tile_floor runs from run.from h.1

  tile_split : (runs more : List Run) (from to : ℕ) → Tile wanted (runs ++ more) from to
      → (mid : ℕ) × Tile wanted runs mid to × Tile wanted more from mid
  tile_split [] more from to h = (to, refl, h)
  tile_split (run ∷ runs) more from to h = let s = tile_split runs more from run.from h.1 in (s.0, (h.0, s.1), s.2)

  tile_last : (runs : List Run) (run : Run) (low to : ℕ) → Tile wanted runs low to → DecidesFrom wanted run.from low (run_decision run)
      → Tile wanted (runs ++ run ∷ []) run.from to
  tile_last [] run low to h k = (subst (λ to. DecidesFrom wanted run.from to (run_decision run)) h k, refl)
  tile_last (first ∷ runs) run low to h k = (h.0, tile_last runs run low first.from h.1 k)

  adds_tile : (runs after : List Run) (run : Run) (low to : ℕ) → AddsRun runs run after → Tile wanted runs low to
      → DecidesFrom wanted run.from low (run_decision run) → Tile wanted after run.from to
  adds_tile _ _ _ low to (below runs after run e) h k = subst (λ after. Tile wanted after run.from to) (sym e)
      (tile_last runs run low to h k)
  adds_tile _ _ _ low to (merged runs after run alike e) h k =
      let s = tile_split alike.others (alike.above ∷ []) low to (subst (λ runs. Tile wanted runs low to) alike.lowest h) in
      let same = alike.run_ends ∙ sym alike.above_ends in
      subst (λ after. Tile wanted after run.from to) (sym e)
      (tile_last alike.others run s.0 to s.1 (λ input word le lt.
      elim (cases_lt word low) [
        | inl lower ↦ k input word le lower
        | inr higher ↦ ap (λ decision. decide decision input word) same ∙ s.2.0 input word (let there = s.2.1 in omega arith) lt
      ]))
  adds_tile _ _ _ low to (enclosed runs after run joined around at d e) h k =
      let s = tile_split around.others (around.above ∷ around.middle ∷ []) low to (subst (λ runs. Tile wanted runs low to) around.lowest h) in
      let middle = around.middle in
      let above = around.above in
      let alone = around.alone in
      subst (λ after. Tile wanted after run.from to) (sym e)
      (subst (λ from. Tile wanted (around.others ++ joined ∷ []) from to) at
      (tile_last around.others joined s.0 to s.1 (λ input word le lt.
      ap (λ decision. decide decision input word) d
      ∙ elim (eqb_tells word middle.from) [
        | inl t ↦ ap (λ b. cond b (decide (run_decision middle) input word) around.action) t.0
            ∙ s.2.1.0 input word (let is = t.1 in omega arith) (let is = t.1 in omega arith)
        | inr f ↦ ap (λ b. cond b (decide (run_decision middle) input word) around.action) f.0
            ∙ elim (cases_lt word low) [
              | inl lower ↦ ap (λ decision. decide decision input word) (sym around.run_ends) ∙ k input word (let start = at in omega arith) lower
              | inr higher ↦ ap (λ decision. decide decision input word) (sym around.above_ends)
                  ∙ s.2.0 input word (let start = s.2.1.1 in let other = f.1 in above_alone word middle.from above.from alone (omega arith) other) lt
            ]
      ])))
  adds_tile _ _ _ low to (extended runs after run joined more at d e) h k =
      let s = tile_split more.others (more.lowest_run ∷ []) low to (subst (λ runs. Tile wanted runs low to) more.lowest h) in
      let own = more.own in
      subst (λ after. Tile wanted after run.from to) (sym e)
      (subst (λ from. Tile wanted (more.others ++ joined ∷ []) from to) at
      (tile_last more.others joined s.0 to s.1 (λ input word le lt.
      ap (λ decision. decide decision input word) d
      ∙ elim (cases_lt word low) [
        | inl lower ↦ ap (λ decision. decide decision input word) more.around
            ∙ ap (λ b. cond b (decide more.hit input word) more.action) (not_same word more.number (let start = s.2.1 in omega arith))
            ∙ ap (λ decision. decide decision input word) (sym more.run_ends) ∙ k input word (let start = at in omega arith) lower
        | inr higher ↦ s.2.0 input word (let start = s.2.1 in omega arith) lt
      ])))

  fills_tile : (runs after : List Run) (from : ℕ) (rest : Action) (low : ℕ) → Fills runs from rest after → low ≤ 2 ^ 32
      → Tile wanted runs low (2 ^ 32) → from ≤ low →
      ((input : CallData) (word : ℕ) → from ≤ word → word < low → wanted input word ≡ rest) → Tile wanted after from (2 ^ 32)
  fills_tile _ _ _ _ low (filled runs after from rest e is) few h le k =
      let there = tile_floor runs low (2 ^ 32) h in
      let same : low ≡ from = elim e [ inl past ↦ omega arith | inr under ↦ omega arith ] in
      subst (λ after. Tile wanted after from (2 ^ 32)) (sym is) (subst (λ low. Tile wanted runs low (2 ^ 32)) same h)
  fills_tile _ _ _ _ low (fills runs after from rest gap at e adds) few h le k =
      subst (λ from. Tile wanted after from (2 ^ 32)) at
      (adds_tile runs after gap low (2 ^ 32) adds h (λ input word above under. ap (λ decision. decide decision input word) e ∙ sym (k input word (let start = at in omega arith) under)))

  number_tile : (runs after : List Run) (number : ℕ) (rest : Action) (low : ℕ) (decision : Decision)
      → AddsNumber runs number decision rest after → low ≤ 2 ^ 32 → Tile wanted runs low (2 ^ 32) → number < low →
      ((input : CallData) (word : ℕ) → number < word → word < low → wanted input word ≡ rest)
      → ((input : CallData) → decide decision input number ≡ wanted input number) → Tile wanted after number (2 ^ 32)
  number_tile runs after number rest low decision added few h lt gap here =
      let full = fills_tile runs added.filled_runs (number + 1) rest low added.fill few h (omega arith) (λ input word le below. gap input word (omega arith) below) in
      subst (λ from. Tile wanted after from (2 ^ 32)) added.from
      (adds_tile added.filled_runs after added.run (number + 1) (2 ^ 32) added.adds full (λ input word le below.
      let only : word ≡ number = let start = added.from in omega arith in
      ap (λ decision. decide decision input word) added.decides ∙ ap (decide decision input) only ∙ here input
      ∙ ap (wanted input) (sym only)))

  joins_decide : (runs : List Run) (run : Run) (from to : ℕ) → Joins runs run → Tile wanted runs from to
      → (run.from ≡ from) × DecidesFrom wanted run.from to (run_decision run)
  joins_decide _ _ from to (one run) h = (sym h.1, h.0)
  joins_decide _ _ from to (two highs lows high low run highs_join lows_join le more at e) h =
      let s = tile_split highs lows from to h in
      let upper = joins_decide highs high s.0 to highs_join s.1 in
      let lower = joins_decide lows low from s.0 lows_join s.2 in (
        at ∙ lower.0,
        λ input word above under.
            ap (λ decision. decide decision input word) e
            ∙ elim (leb_tells high.from word) [
              | inl t ↦ ap (λ b. cond b (decide (run_decision high) input word) (decide (run_decision low) input word)) t.0
                  ∙ upper.1 input word t.1 under
              | inr f ↦ ap (λ b. cond b (decide (run_decision high) input word) (decide (run_decision low) input word)) f.0
                  ∙ lower.1 input word (let start = at in omega arith) (let start = upper.0 in let beyond = f.1 in omega arith)
            ],
      )

-- The runs are what is wanted from some number on, and below it all but the numbers that are left are to end with the rest.
pub record Covers (wanted : Wanted) (rest : Action) (left : List ℕ) (runs : List Run) : Type 0 where
  pub low : ℕ
  pub few : low ≤ 2 ^ 32
  pub tile : Tile wanted runs low (2 ^ 32)
  pub above : (low ≡ 2 ^ 32) ⊎ Each (λ n. n < low) left
  pub others : (input : CallData) (word : ℕ) → word < low → list_any (λ n. eqb word n) left ≡ false → wanted input word ≡ rest

pub covers_none : (wanted : Wanted) (rest : Action) (left : List ℕ)
    → ((input : CallData) (word : ℕ) → list_any (λ n. eqb word n) left ≡ false → wanted input word ≡ rest) → Covers wanted rest left []
covers_none wanted rest left h =
    record { low = 2 ^ 32; few = omega arith; tile = refl; above = inl refl; others = λ input word lt none. h input word none }

pub covers_more : (wanted : Wanted) (rest : Action) (number : ℕ) (left : List ℕ) (runs after : List Run) (decision : Decision)
    → number < 2 ^ 32 → Each (λ n. n < number) left →
    Covers wanted rest (left ++ number ∷ []) runs → AddsNumber runs number decision rest after
    → ((input : CallData) → decide decision input number ≡ wanted input number) → Covers wanted rest left after
covers_more wanted rest number left runs after decision fits rising c added here =
    let lt : number < c.low = elim c.above [ inl all ↦ omega arith | inr each ↦ each_last (λ n. n < c.low) left number each ] in
    record {
      low = number;
      few = omega arith;
      tile = number_tile wanted runs after number rest c.low decision added c.few c.tile lt
          (λ input word above under. c.others input word under (none_above left number word rising above)) here;
      above = inr rising;
      others = λ input word under none. c.others input word (omega arith) (none_below left number word under none);
    }

pub closes_decides : (wanted : Wanted) (rest : Action) (runs : List Run) (decision : Decision) → Covers wanted rest [] runs
    → Closes runs rest decision → DecidesFrom wanted 0 (2 ^ 32) decision
closes_decides wanted rest runs decision c closed =
    let all = fills_tile wanted runs closed.all 0 rest c.low closed.fill c.few c.tile (omega arith) (λ input word le lt. c.others input word lt refl) in
    let joined = joins_decide wanted closed.all closed.run 0 (2 ^ 32) closed.joined all in
    let start = joined.0 in
    λ input word le lt. ap (λ decision. decide decision input word) (sym closed.decides) ∙ joined.1 input word (omega arith) lt
