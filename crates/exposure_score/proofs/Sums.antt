-- The sums over the rows of a score.
use Rattle.std.proofs.Common.{◌≡◌, ◌≤◌, ◌+◌, ◌*◌, ℕ, suc, Bool, true, false, cond, List, [], ◌∷◌, length, Some, None, Option, refl, sym, ap}
use Rattle.std.proofs.Common.{◌∙◌, subst, zero-add, arith}
use Rattle.std.specs.Prelude.{is_some, ◌||◌, filter, sum_by}
use Rattle.std.specs.List.{AllZip, AllByRecursion}
use Rattle.std.proofs.lemmas.List.Sums.{sum_by-cons}
use Rattle.exposure_score.specs.declared.policy_file.policy.PolicyTest.{PolicyTest}
use Rattle.exposure_score.specs.policy_file.Policy.{IsTest, IsPolicy}
use Rattle.exposure_score.specs.declared.facts.Fact.{Fact}
use Rattle.exposure_score.specs.declared.rows.ScoreRow.{ScoreRow}
use Rattle.exposure_score.specs.Badness.{IsBadness, fact_of, stored_of, is_known}
use Rattle.exposure_score.specs.Rows.{row_of, counted_weight, IsRow, IsScore}
use Rattle.exposure_score.specs.Arithmetic.{exposure}
use Rattle.exposure_score.proofs.Quotients.{term_below}

-- of a sum over what passes a test, the first
sum_filter : {A : Type 0} (passes : A → Bool) (f : A → ℕ) (x : A) (xs : List A) (b : Bool) → passes x ≡ b
    → sum_by f (filter passes (x ∷ xs)) ≡ cond b (f x) 0 + sum_by f (filter passes xs)
sum_filter passes f x xs true e = ap (λ c. sum_by f (cond c (x ∷ filter passes xs) (filter passes xs))) e
    ∙ sum_by-cons f x (filter passes xs)
sum_filter passes f x xs false e = ap (λ c. sum_by f (cond c (x ∷ filter passes xs) (filter passes xs))) e
    ∙ sym (zero-add (sum_by f (filter passes xs)))

-- a test has a badness exactly where it is known
known_by : {T : Type 0} (Answers : T → ℕ → Type 0) (fact : Option Fact) (stored : Option T) (badness : Option ℕ)
    → IsBadness Answers fact stored badness → (is_some fact || is_some stored) ≡ is_some badness
known_by Answers (Some fact) stored badness h = ap is_some (sym h)
known_by Answers None (Some test) badness h = ap is_some (sym h.2)
known_by Answers None None badness h = ap is_some (sym h)

-- what a row adds to the sums
record Adds (test : PolicyTest) (known : Bool) (row : ScoreRow) : Type 0 where
  weight : row.weight ≡ cond known test.weight 0
  term : row.term ≤ row.weight
  few : row.weight ≤ 1000000

adds_at : (test : PolicyTest) (badness : Option ℕ) → IsTest test → Adds test (is_some badness) (row_of test badness)
adds_at test None is = record { weight = refl; term = omega arith; few = omega arith }
adds_at test (Some badness) is = record { weight = refl; term = term_below badness test.range test.weight is.least_range; few = is.weight }

module _ {T : Type 0} (id_of : T → List ℕ) (Answers : T → ℕ → Type 0) (facts : List Fact) (tests : List T) where
  adds : (test : PolicyTest) (row : ScoreRow) → IsTest test → IsRow id_of Answers facts tests test row
      → Adds test (is_known id_of facts tests test.id) row
  adds test row is h =
      let known = known_by Answers (fact_of facts test.id) (stored_of id_of tests test.id) h.badness h.has in
      subst (λ (b : Bool). Adds test b row) (sym known) (subst (Adds test (is_some h.badness)) (sym h.says) (adds_at test h.badness is))

  -- what the rows of a policy come to
  pub record Sums (policy : List PolicyTest) (rows : List ScoreRow) : Type 0 where
    pub weights : sum_by (λ row. row.weight) rows ≡ counted_weight id_of facts tests policy
    pub terms : sum_by (λ row. row.term) rows ≤ sum_by (λ row. row.weight) rows
    pub few : sum_by (λ row. row.weight) rows ≤ 1000000 * length policy
    pub as_many : length rows ≡ length policy

  pub sums : (policy : List PolicyTest) (rows : List ScoreRow) → AllByRecursion IsTest policy
      → AllZip (IsRow id_of Answers facts tests) policy rows → Sums policy rows
  sums [] [] are zip = record { weights = refl; terms = omega arith; few = omega arith; as_many = refl }
  sums [] (row ∷ rows) are zip = absurd zip
  sums (test ∷ policy) [] are zip = absurd zip
  sums (test ∷ policy) (row ∷ rows) are zip =
      let a = adds test row are.0 zip.0 in
      let more = sums policy rows are.1 zip.1 in
      let weights = sum_by-cons (λ (one : ScoreRow). one.weight) row rows in
      let terms = sum_by-cons (λ (one : ScoreRow). one.term) row rows in
      let counted = sum_filter (λ (one : PolicyTest). is_known id_of facts tests one.id) (λ (one : PolicyTest). one.weight) test policy (is_known id_of facts tests test.id) refl in
      record { weights = cc; terms = omega arith; few = omega arith; as_many = ap suc more.as_many }

  -- the rows of a policy, and what they come to
  pub record Totals (policy : List PolicyTest) (rows : List ScoreRow) : Type 0 where
    pub zip : AllZip (IsRow id_of Answers facts tests) policy rows
    pub weights : sum_by (λ row. row.weight) rows ≡ counted_weight id_of facts tests policy
    pub terms : sum_by (λ row. row.term) rows ≤ sum_by (λ row. row.weight) rows
    pub few_weights : sum_by (λ row. row.weight) rows ≤ 512000000
    pub few_rows : length rows ≤ 512

  totals_of : (policy : List PolicyTest) (rows : List ScoreRow) → IsPolicy policy → AllZip (IsRow id_of Answers facts tests) policy rows
      → Totals policy rows
  totals_of policy rows is zip =
      let s = sums policy rows is.each_test zip in
      let few : length policy ≤ 512 = is.few in
      record { zip = zip; weights = s.weights; terms = s.terms; few_weights = omega (arith, s.few); few_rows = omega (arith, s.as_many) }

  pub totals : (policy held : List PolicyTest) (rows : List ScoreRow) → held ≡ policy → IsPolicy policy
      → AllZip (IsRow id_of Answers facts tests) held rows → Totals policy rows
  totals policy held rows same is zip = totals_of policy rows is
      (subst (λ (one : List PolicyTest). AllZip (IsRow id_of Answers facts tests) one rows) same zip)

  module _ (policy : List PolicyTest) (rows shown : List ScoreRow) (made : Totals policy rows) (same : shown ≡ rows) where
    pub few_shown : length shown ≤ 512
    few_shown = subst (λ (one : List ScoreRow). length one ≤ 512) (sym same) made.few_rows

    pub counted : (weights : ℕ) → weights ≡ sum_by (λ row. row.weight) shown → counted_weight id_of facts tests policy ≡ weights
    counted weights is = sym made.weights ∙ ap (sum_by (λ (row : ScoreRow). row.weight)) (sym same) ∙ sym is

    pub few_weights_shown : (weights : ℕ) → weights ≡ sum_by (λ row. row.weight) shown → weights ≤ 512000000
    few_weights_shown weights is =
        let w : weights ≡ sum_by (λ (row : ScoreRow). row.weight) rows = is ∙ ap (sum_by (λ (row : ScoreRow). row.weight)) same in
        omega (arith, made.few_weights)

    module _ (terms weights : ℕ) (others : List ScoreRow) (alike : others ≡ rows) (weigh : weights ≡ sum_by (λ row. row.weight) shown) (count : terms ≡ sum_by (λ row. row.term) others) where
      terms_are : terms ≡ sum_by (λ (row : ScoreRow). row.term) rows
      terms_are = count ∙ ap (sum_by (λ (row : ScoreRow). row.term)) alike

      pub part : terms ≤ weights
      part =
          let w : weights ≡ sum_by (λ (row : ScoreRow). row.weight) rows = weigh ∙ ap (sum_by (λ (row : ScoreRow). row.weight)) same in
          let t = terms_are in
          omega (arith, made.terms)

      pub is_score : (last : List ScoreRow) (bad : ℕ) → last ≡ rows → bad ≡ exposure terms weights
          → IsScore id_of Answers facts tests policy (record { rows = last; exposure = bad })
      is_score last bad end says = record {
        rows = subst (λ (one : List ScoreRow). AllZip (IsRow id_of Answers facts tests) policy one) (sym end) made.zip;
        exposure = says ∙ ap (λ n. exposure n weights) (terms_are ∙ ap (sum_by (λ (row : ScoreRow). row.term)) (sym end))
            ∙ ap (exposure (sum_by (λ (row : ScoreRow). row.term) last)) (sym (counted weights weigh));
      }
