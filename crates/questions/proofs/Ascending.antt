-- Ids in order: the same members, each below the next; and a list of which both hold is the only one.
use Rattle.std.proofs.Common.{◌≡◌, ◌<◌, ◌≤◌, ◌⊎◌, inl, inr, ℕ, zero, suc, Bool, true, false, cond, List, [], ◌∷◌, ◌+◌, get_or, length, refl}
use Rattle.std.proofs.Common.{◌∙◌, sym, arith}
use Rattle.std.specs.Prelude.{nat_lt, ◌==◌, Contains, AllPairs}
use Rattle.std.specs.List.Sorted.{IsStrictlyIncreasing}
use Rattle.std.specs.List.{AllByRecursion}
use Rattle.std.proofs.lemmas.Bool.{eqb-true, ltb-true}
use Rattle.std.proofs.lemmas.Bool.Decides.{nat_tests}
use Rattle.std.proofs.lemmas.List.Kept.{AllPairs-from_increasing}
use Rattle.kernel_laws.specs.Questions.{placed, ascending}
use Rattle.questions.specs.Listed.{IdsAscendOnce}
use Rattle.questions.proofs.Among.{Has, has_contained, contains_had, all_had}

abbrev pub Rises : List ℕ → Type 0
Rises [] = Unit {0}
Rises (x ∷ xs) = AllByRecursion (λ y. x < y) xs × Rises xs

-- ---- one id put in its place
above : (id other : ℕ) → nat_lt id other ≡ false → (id == other) ≡ false → other < id
above id other lt eq = grind (arith, nat_tests, lt, eq)

pub has_placed : (id : ℕ) (ids : List ℕ) (n : ℕ) → Has (placed id ids) n → (id ≡ n) ⊎ Has ids n
has_placed id [] n h = h
has_placed id (other ∷ ids) n h = by (nat_lt id other) (id == other) h (has_placed id ids n)
  where
    by : (lt eq : Bool) → Has (cond lt (id ∷ other ∷ ids) (cond eq (other ∷ ids) (other ∷ placed id ids))) n
        → (Has (placed id ids) n → (id ≡ n) ⊎ Has ids n) → (id ≡ n) ⊎ Has (other ∷ ids) n
    by true eq h more = h
    by false true h more = inr h
    by false false h more = elim h [ inl e ↦ inr (inl e) | inr deep ↦ elim (more deep) [ inl e ↦ inl e | inr there ↦ inr (inr there) ] ]

pub placed_has : (id : ℕ) (ids : List ℕ) (n : ℕ) → (id ≡ n) ⊎ Has ids n → Has (placed id ids) n
placed_has id [] n h = h
placed_has id (other ∷ ids) n h = by (nat_lt id other) (id == other) refl h (placed_has id ids n)
  where
    by : (lt eq : Bool) → (id == other) ≡ eq → (id ≡ n) ⊎ Has (other ∷ ids) n → ((id ≡ n) ⊎ Has ids n → Has (placed id ids) n)
        → Has (cond lt (id ∷ other ∷ ids) (cond eq (other ∷ ids) (other ∷ placed id ids))) n
    by true eq e h more = h
    by false true e h more = elim h [ inl is ↦ (let same : id ≡ other = eqb-true id other e in inl (sym same ∙ is)) | inr there ↦ there ]
    by false false e h more =
        elim h [ inl is ↦ inr (more (inl is)) | inr there ↦ elim there [ inl is ↦ inl is | inr deep ↦ inr (more (inr deep)) ] ]

above_all : (low high : ℕ) (ids : List ℕ) → low < high → AllByRecursion (λ y. high < y) ids → AllByRecursion (λ y. low < y) ids
above_all low high [] h all = tt
above_all low high (id ∷ ids) h all = (omega (arith, h, all.0), above_all low high ids h all.1)

placed_above : (low id : ℕ) (ids : List ℕ) → low < id → AllByRecursion (λ y. low < y) ids → AllByRecursion (λ y. low < y) (placed id ids)
placed_above low id [] h all = (h, tt)
placed_above low id (other ∷ ids) h all = by (nat_lt id other) (id == other) (placed_above low id ids h all.1)
  where
    by : (lt eq : Bool) → AllByRecursion (λ y. low < y) (placed id ids)
        → AllByRecursion (λ y. low < y) (cond lt (id ∷ other ∷ ids) (cond eq (other ∷ ids) (other ∷ placed id ids)))
    by true eq more = (h, all)
    by false true more = all
    by false false more = (all.0, more)

placed_rises : (id : ℕ) (ids : List ℕ) → Rises ids → Rises (placed id ids)
placed_rises id [] h = (tt, tt)
placed_rises id (other ∷ ids) h = by (nat_lt id other) refl (id == other) refl (placed_rises id ids h.1)
  where
    by : (lt : Bool) → nat_lt id other ≡ lt → (eq : Bool) → (id == other) ≡ eq → Rises (placed id ids)
        → Rises (cond lt (id ∷ other ∷ ids) (cond eq (other ∷ ids) (other ∷ placed id ids)))
    by true l eq e more = let low : id < other = ltb-true id other l in ((low, above_all id other ids low h.0), h)
    by false l true e more = h
    by false l false e more = (placed_above other id ids (above id other l e) h.0, more)

-- ---- all of them
pub has_ascending : (ids : List ℕ) (n : ℕ) → Has (ascending ids) n → Has ids n
has_ascending [] n h = h
has_ascending (id ∷ ids) n h = elim (has_placed id (ascending ids) n h) [ inl e ↦ inl e | inr more ↦ inr (has_ascending ids n more) ]

pub ascending_has : (ids : List ℕ) (n : ℕ) → Has ids n → Has (ascending ids) n
ascending_has [] n h = h
ascending_has (id ∷ ids) n h =
    elim h [ inl e ↦ placed_has id (ascending ids) n (inl e) | inr more ↦ placed_has id (ascending ids) n (inr (ascending_has ids n more)) ]

pub ascending_rises : (ids : List ℕ) → Rises (ascending ids)
ascending_rises [] = tt
ascending_rises (id ∷ ids) = placed_rises id (ascending ids) (ascending_rises ids)

-- ---- between the two ways to say that a list rises
increasing : (ids : List ℕ) → Rises ids → (k : ℕ) → k + 1 < length ids → get_or ids k 0 < get_or ids (k + 1) 0
increasing [] h k b = absurd (omega arith)
increasing (id ∷ []) h k b = absurd (omega arith)
increasing (id ∷ other ∷ ids) h zero b = h.0.0
increasing (id ∷ other ∷ ids) h (suc k) b =
    let more = increasing (other ∷ ids) h.1 k (omega arith) in
    let next : suc k + 1 ≡ suc (k + 1) = omega arith in
    rw next more

each : (P : ℕ → Type 0) (ids : List ℕ) → ((k d : ℕ) → k < length ids → P (get_or ids k d)) → AllByRecursion P ids
each P [] h = tt
each P (id ∷ ids) h = (h 0 0 (omega arith), each P ids (λ k d b. h (suc k) d (omega (arith, b))))

rises_by_pairs : (ids : List ℕ) → AllPairs (λ x y. x < y) ids → Rises ids
rises_by_pairs [] h = tt
rises_by_pairs (id ∷ ids) h = (each (λ y. id < y) ids (λ k d b. h 0 (suc k) d (omega arith) (omega (arith, b))), rises_by_pairs ids (λ i j d a b. h (suc i) (suc j) d (omega (arith, a)) (omega (arith, b))))

pub rises_increasing : (ids : List ℕ) → IsStrictlyIncreasing ids → Rises ids
rises_increasing ids h = rises_by_pairs ids (AllPairs-from_increasing ids h)

-- ---- one list alone rises and has these members
pub only_one : (one other : List ℕ) → Rises one → Rises other → ((n : ℕ) → Has one n → Has other n) → ((n : ℕ) → Has other n → Has one n)
    → one ≡ other
only_one [] [] h g there back = refl
only_one [] (y ∷ other) h g there back = absurd (back y (inl refl))
only_one (x ∷ one) [] h g there back = absurd (there x (inl refl))
only_one (x ∷ one) (y ∷ other) h g there back =
    let low : y ≤ x = elim (there x (inl refl)) [ inl e ↦ omega (arith, e) | inr more ↦ (let b = all_had (λ n. y < n) other x g.0 more in omega (arith, b)) ] in
    let high : x ≤ y = elim (back y (inl refl)) [ inl e ↦ omega (arith, e) | inr more ↦ (let b = all_had (λ n. x < n) one y h.0 more in omega (arith, b)) ] in
    let same : x ≡ y = omega arith in
    let more = only_one one other h.1 g.1
    (λ n a. elim (there n (inr a)) [ inl e ↦ (let b = all_had (λ m. x < m) one n h.0 a in absurd (omega (arith, b, e, same))) | inr deep ↦ deep ])
    (λ n a. elim (back n (inr a)) [ inl e ↦ (let b = all_had (λ m. y < m) other n g.0 a in absurd (omega (arith, b, e, same))) | inr deep ↦ deep ]) in
    cc

-- a list that rises and has the members of another is that in order
pub is_ascending : (ids given : List ℕ) → IsStrictlyIncreasing ids → ((n : ℕ) → Contains given n → Contains ids n)
    → ((n : ℕ) → Contains ids n → Contains given n) → ids ≡ ascending given
is_ascending ids given rises there back =
    only_one ids (ascending given) (rises_increasing ids rises) (ascending_rises given)
    (λ n h. ascending_has given n (has_contained given n (back n (contains_had ids n h))))
    (λ n h. has_contained ids n (there n (contains_had given n (has_ascending given n h))))

pub ids_ascend : IdsAscendOnce
ids_ascend given = record {
  same = λ id. (
    (λ h. contains_had given id (has_ascending given id (has_contained (ascending given) id h))),
    (λ h. contains_had (ascending given) id (ascending_has given id (has_contained given id h))),
  );
  rises = increasing (ascending given) (ascending_rises given);
}
