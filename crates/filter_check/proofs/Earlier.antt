-- The end that represents another one has a difference that is not after the other end's.
use Rattle.std.proofs.Common.{◌≡◌, ◌≢◌, ℕ, suc, ◌+◌, ◌*◌, ◌/◌, ◌%◌, ◌^◌, ◌<◌, ◌≤◌, Bool, true, false, cond, List, [], ◌∷◌, length, get_or}
use Rattle.std.proofs.Common.{inl, inr, refl, sym, ap, ◌∙◌, subst, arith}
use Rattle.std.specs.List.{AllZip}
use Rattle.std.proofs.lemmas.List.Elements.{All-from_recursion}
use Rattle.seccomp_compile.specs.bpf_code.declared.machine.Insn.{Insn}
use Rattle.seccomp_compile.specs.bpf_code.declared.machine.CallData.{CallData}
use Rattle.seccomp_compile.specs.bpf_code.Effects.{words_of}
use Rattle.seccomp_compile.specs.bpf_code.Meaning.{IsCallData}
use Rattle.seccomp_compile.specs.bpf_code.Reading.{IsProgram}
use Rattle.seccomp_compile.specs.Form.{AreOfForm}
use Rattle.filter_check.specs.declared.word_sets.condition.Condition.{Condition}
use Rattle.filter_check.specs.word_sets.Conditions.{meets_all}
use Rattle.filter_check.specs.filter_paths.Regions.{IsWithin, sets_of}
use Rattle.filter_check.specs.declared.filter_paths.region.Region.{Region}
use Rattle.filter_check.specs.declared.filter_paths.states.End.{End}
use Rattle.filter_check.specs.Order.{IsNotAfter}
use Rattle.filter_check.specs.Representing.{MarksLoads, HaveSameSets, Represents}
use Rattle.filter_check.proofs.Words.{word_fits, sixteen}
use Rattle.filter_check.proofs.Lists.{zip_from_places, zip_at, zip_lengths, by_sixteen}
use Rattle.filter_check.proofs.Sorting.{le_step}
use Rattle.filter_check.proofs.Alike.{load_fits, AreAlike, same_answer}

-- the word of the first data at a marked place, and of the other data elsewhere
abbrev pub pick : List Bool → CallData → CallData → ℕ → ℕ
pick marks one other k = cond (get_or marks k false) (get_or (words_of one) k 0) (get_or (words_of other) k 0)

abbrev pub number : ℕ → ℕ → ℕ
number low high = low + 4294967296 * high

-- the data of these words
abbrev pub mixed : List Bool → CallData → CallData → CallData
mixed marks one other =
    let p = pick marks one other in
    record {
      nr = p 0;
      arch = p 1;
      ip = number (p 2) (p 3);
      args = number (p 4) (p 5) ∷ number (p 6) (p 7) ∷ number (p 8) (p 9) ∷ number (p 10) (p 11) ∷ number (p 12) (p 13) ∷ number (p 14) (p 15) ∷ [];
    }

module _ (marks : List Bool) (one other : CallData) (fits : IsCallData one) (other_fits : IsCallData other) where
  pick_fits : (k : ℕ) → pick marks one other k < 2 ^ 32
  pick_fits k = by (get_or marks k false)
    where
      by : (t : Bool) → cond t (get_or (words_of one) k 0) (get_or (words_of other) k 0) < 2 ^ 32
      by true = word_fits one k fits
      by false = word_fits other k other_fits

  low_is : (j k : ℕ) → number (pick marks one other j) (pick marks one other k) % 2 ^ 32 ≡ pick marks one other j
  low_is j k = of_number (pick marks one other j) (pick marks one other k) (pick_fits j)
    where
      of_number : (a b : ℕ) → a < 2 ^ 32 → number a b % 2 ^ 32 ≡ a
      of_number a b lt = omega (arith, lt)

  high_is : (j k : ℕ) → number (pick marks one other j) (pick marks one other k) / 2 ^ 32 ≡ pick marks one other k
  high_is j k = of_number (pick marks one other j) (pick marks one other k) (pick_fits j)
    where
      of_number : (a b : ℕ) → a < 2 ^ 32 → number a b / 2 ^ 32 ≡ b
      of_number a b lt = omega (arith, lt)

  number_fits : (j k : ℕ) → number (pick marks one other j) (pick marks one other k) < 2 ^ 64
  number_fits j k = of_number (pick marks one other j) (pick marks one other k) (pick_fits j) (pick_fits k)
    where
      of_number : (a b : ℕ) → a < 2 ^ 32 → b < 2 ^ 32 → number a b < 2 ^ 64
      of_number a b lt less = omega (arith, lt, less)

  pub words_mixed : (k : ℕ) → k < 16 → get_or (words_of (mixed marks one other)) k 0 ≡ pick marks one other k
  words_mixed = by_sixteen (λ k. get_or (words_of (mixed marks one other)) k 0 ≡ pick marks one other k)
      refl refl (low_is 2 3) (high_is 2 3) (low_is 4 5) (high_is 4 5) (low_is 6 7) (high_is 6 7) (low_is 8 9) (high_is 8 9)
      (low_is 10 11) (high_is 10 11) (low_is 12 13) (high_is 12 13) (low_is 14 15) (high_is 14 15)

  pub mixed_fits : IsCallData (mixed marks one other)
  mixed_fits = record {
    nr = pick_fits 0;
    arch = pick_fits 1;
    ip = number_fits 2 3;
    count = refl;
    args = All-from_recursion (λ arg. arg < 2 ^ 64) (mixed marks one other).args
        (number_fits 4 5, (number_fits 6 7, (number_fits 8 9, (number_fits 10 11, (number_fits 12 13, (number_fits 14 15, tt))))));
  }

  -- a word of the mixed data is one of these
  picked_is : (k : ℕ) → k < 16 → (t : Bool) → get_or marks k false ≡ t
      → get_or (words_of (mixed marks one other)) k 0 ≡ cond t (get_or (words_of one) k 0) (get_or (words_of other) k 0)
  picked_is k lt t e = words_mixed k lt ∙ ap (λ b. cond b (get_or (words_of one) k 0) (get_or (words_of other) k 0)) e

  -- with the marked words of data of another region that has the same conditions there they are of the region
  pub within_mixed : (region from : Region) → HaveSameSets marks region from → IsWithin from one → IsWithin region other
      → IsWithin region (mixed marks one other)
  within_mixed region from same there here =
      let l = sixteen other other_fits in
      let m = sixteen (mixed marks one other) mixed_fits in
      let n = zip_lengths Meets (sets_of region) (words_of other) here in
      zip_from_places Meets (sets_of region) (words_of (mixed marks one other)) [] 0 (n ∙ l ∙ sym m)
      (λ k lt. by k (omega (arith, lt, m)) (get_or marks k false) refl)
    where
      Meets : List Condition → ℕ → Type 0
      Meets set word = meets_all set word ≡ true

      by : (k : ℕ) → k < 16 → (t : Bool) → get_or marks k false ≡ t
          → Meets (get_or (sets_of region) k []) (get_or (words_of (mixed marks one other)) k 0)
      by k lt true e =
          let l = sixteen one fits in
          subst (Meets (get_or (sets_of region) k [])) (sym (picked_is k lt true e))
          (subst (λ set. Meets set (get_or (words_of one) k 0)) (sym (same k lt e))
          (zip_at Meets (sets_of from) (words_of one) k [] 0 there (omega (arith, l, lt))))
      by k lt false e =
          let l = sixteen other other_fits in
          subst (Meets (get_or (sets_of region) k [])) (sym (picked_is k lt false e))
          (zip_at Meets (sets_of region) (words_of other) k [] 0 here (omega (arith, l, lt)))

-- the data are of the region, and each word of them is at most that of its other data
pub record IsLeastIn (region : Region) (least : CallData) : Type 0 where
  pub fits : IsCallData least
  pub is_one : IsWithin region least
  pub is_least : (input : CallData) → IsCallData input → IsWithin region input
      → AllZip (λ (one other : ℕ). one ≤ other) (words_of least) (words_of input)

flipped : (marks : List Bool) (region from : Region) → HaveSameSets marks region from → HaveSameSets marks from region
flipped marks region from same = λ k lt e. sym (same k lt e)

-- so the least data have the same words where the conditions are the same
least_up_to : (marks : List Bool) (region from : Region) (least last : CallData) → HaveSameSets marks region from → IsLeastIn region least
    → IsLeastIn from last → (k : ℕ) → k < 16 → get_or marks k false ≡ true → get_or (words_of least) k 0 ≤ get_or (words_of last) k 0
least_up_to marks region from least last same one other k lt e =
    let m = mixed marks last least in
    let fits = mixed_fits marks last least other.fits one.fits in
    let within = within_mixed marks last least other.fits one.fits region from same other.is_one one.is_one in
    let l = sixteen m fits in
    subst (λ word. get_or (words_of least) k 0 ≤ word) (picked_is marks last least other.fits one.fits k lt true e)
    (zip_at (λ (one other : ℕ). one ≤ other) (words_of least) (words_of m) k 0 0 (one.is_least m fits within) (omega (arith, l, lt)))

same_least : (marks : List Bool) (region from : Region) (least last : CallData) → HaveSameSets marks region from → IsLeastIn region least
    → IsLeastIn from last → (k : ℕ) → k < 16 → get_or marks k false ≡ true → get_or (words_of least) k 0 ≡ get_or (words_of last) k 0
same_least marks region from least last same one other k lt e =
    let there = least_up_to marks region from least last same one other k lt e in
    let back = least_up_to marks from region last least (flipped marks region from same) other one k lt e in
    omega (arith, there, back)

-- Words that are those of the data at the marked places and lesser ones elsewhere are not after the data.
record AreLesser (mark : ℕ → Bool) (words data_words firsts lasts : List ℕ) : Type 0 where
  count : length words ≡ length data_words
  firsts_count : length firsts ≡ length data_words
  lasts_count : length lasts ≡ length data_words
  marked : (k : ℕ) → k < length data_words → mark k ≡ true
      → (get_or words k 0 ≡ get_or data_words k 0) × (get_or firsts k 0 ≡ get_or lasts k 0)
  others : (k : ℕ) → k < length data_words → mark k ≡ false → get_or words k 0 ≡ get_or firsts k 0
  least : (k : ℕ) → k < length data_words → get_or lasts k 0 ≤ get_or data_words k 0

rest_lesser : (mark : ℕ → Bool) (x y f g : ℕ) (xs ys fs gs : List ℕ) → AreLesser mark (x ∷ xs) (y ∷ ys) (f ∷ fs) (g ∷ gs)
    → AreLesser (λ k. mark (suc k)) xs ys fs gs
rest_lesser mark x y f g xs ys fs gs h = record {
  count = let l = h.count in omega (arith, l);
  firsts_count = let l = h.firsts_count in omega (arith, l);
  lasts_count = let l = h.lasts_count in omega (arith, l);
  marked = λ k lt e. h.marked (suc k) (omega (arith, lt)) e;
  others = λ k lt e. h.others (suc k) (omega (arith, lt)) e;
  least = λ k lt. h.least (suc k) (omega (arith, lt));
}

lesser_step : (mark : ℕ → Bool) (x y f g : ℕ) (xs ys fs gs : List ℕ) → AreLesser mark (x ∷ xs) (y ∷ ys) (f ∷ fs) (g ∷ gs)
    → (IsNotAfter fs gs → IsNotAfter xs ys) → IsNotAfter (f ∷ fs) (g ∷ gs) → (t : Bool) → mark 0 ≡ t → IsNotAfter (x ∷ xs) (y ∷ ys)
lesser_step mark x y f g xs ys fs gs h more (inl lt) true e =
    let m = h.marked 0 (omega arith) e in absurd (omega (arith, lt, m.1))
lesser_step mark x y f g xs ys fs gs h more (inr n) true e =
    let m = h.marked 0 (omega arith) e in inr (m.0, more n.1)
lesser_step mark x y f g xs ys fs gs h more (inl lt) false e =
    let o = h.others 0 (omega arith) e in
    let l = h.least 0 (omega arith) in
    inl (omega (arith, lt, o, l))
lesser_step mark x y f g xs ys fs gs h more (inr n) false e =
    let o = h.others 0 (omega arith) e in
    let l = h.least 0 (omega arith) in
    le_step x y xs ys (omega (arith, o, l, n.0)) (more n.1)

lesser_words : (mark : ℕ → Bool) (xs ys fs gs : List ℕ) → AreLesser mark xs ys fs gs → IsNotAfter fs gs → IsNotAfter xs ys
lesser_words mark [] ys fs gs h n = tt
lesser_words mark (x ∷ xs) [] fs gs h n = let l = h.count in absurd (omega (arith, l))
lesser_words mark (x ∷ xs) (y ∷ ys) [] gs h n = let l = h.firsts_count in absurd (omega (arith, l))
lesser_words mark (x ∷ xs) (y ∷ ys) (f ∷ fs) [] h n = let l = h.lasts_count in absurd (omega (arith, l))
lesser_words mark (x ∷ xs) (y ∷ ys) (f ∷ fs) (g ∷ gs) h n =
    lesser_step mark x y f g xs ys fs gs h
    (lesser_words (λ k. mark (suc k)) xs ys fs gs (rest_lesser mark x y f g xs ys fs gs h)) n (mark 0) refl

-- two ends of which the first one represents the other
pub record MayRepresent (marks : List Bool) (one other : End) (least last : CallData) : Type 0 where
  pub answer : one.answer ≡ other.answer
  pub least_is : IsLeastIn one.region least
  pub last_is : IsLeastIn other.region last
  pub order : IsNotAfter (words_of least) (words_of last)
  pub same : HaveSameSets marks one.region other.region

earlier_words : (marks : List Bool) (one other : End) (least last input : CallData) → MayRepresent marks one other least last
    → IsCallData input → IsWithin other.region input → IsNotAfter (words_of (mixed marks input least)) (words_of input)
earlier_words marks one other least last input may fits within =
    let first_fits = may.least_is.fits in
    let m = mixed marks input least in
    let l = sixteen m (mixed_fits marks input least fits first_fits) in
    let n = sixteen input fits in
    let f = sixteen least first_fits in
    let g = sixteen last may.last_is.fits in
    lesser_words (λ k. get_or marks k false) (words_of m) (words_of input) (words_of least) (words_of last)
    record {
      count = l ∙ sym n;
      firsts_count = f ∙ sym n;
      lasts_count = g ∙ sym n;
      marked = λ k lt e.
          let small : k < 16 = omega (arith, lt, n) in (
            picked_is marks input least fits first_fits k small true e,
            same_least marks one.region other.region least last may.same may.least_is may.last_is k small e,
          );
      others = λ k lt e. picked_is marks input least fits first_fits k (omega (arith, lt, n)) false e;
      least = λ k lt. zip_at (λ (one other : ℕ). one ≤ other) (words_of last) (words_of input) k 0 0
          (may.last_is.is_least input fits within) lt;
    }
    may.order

alike : (code : List Insn) (marks : List Bool) (input least : CallData) → IsProgram code → MarksLoads code marks → IsCallData input
    → IsCallData least → AreAlike code input (mixed marks input least)
alike code marks input least program loads fits least_fits at insn found load =
    sym (picked_is marks input least fits least_fits (insn.k / 4) (load_fits code at insn program found load) true (loads at insn found load))

pub represents_it : (code : List Insn) (marks : List Bool) (one other : End) (least last : CallData) → MayRepresent marks one other least last
    → IsProgram code → AreOfForm code → MarksLoads code marks → Represents code one other
represents_it code marks one other least last may program form loads input ours d =
    let first_fits = may.least_is.fits in (
      mixed marks input least,
      record {
        fits = mixed_fits marks input least d.fits first_fits;
        within = within_mixed marks input least d.fits first_fits one.region other.region may.same d.within may.least_is.is_one;
        answers = same_answer code input (mixed marks input least) ours form (alike code marks input least program loads d.fits first_fits) d.answers;
        differ = subst (λ answer. answer ≢ ours) (sym may.answer) d.differ;
      },
      earlier_words marks one other least last input may d.fits d.within,
    )
