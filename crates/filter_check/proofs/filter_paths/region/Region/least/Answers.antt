use Rattle.std.proofs.Common.{◌≡◌, ◌<◌, ◌≤◌, ℕ, true, List, [], ◌∷◌, ◌%◌, ◌/◌, ◌^◌, length, get_or, sym, ◌∙◌, arith}
use Rattle.filter_check.specs.declared.word_sets.condition.Condition.{Condition}
use Rattle.filter_check.specs.word_sets.Conditions.{meets_all}
use Rattle.seccomp_compile.specs.bpf_code.Effects.{words_of}
use Rattle.filter_check.specs.filter_paths.Regions.{sets_of}
use Rattle.filter_check.proofs.Lists.{zip_from_places, zip_at, by_sixteen, same_map_length}
use Rattle.filter_check.proofs.Words.{sixteen, word_fits}
use Rattle.filter_check.proofs.filter_paths.region.Region.least.Goals as goal

pub returns-clause-is_one : goal.returns-clause-is_one
returns-clause-is_one c =
    zip_from_places (λ (set : List Condition) (word : ℕ). meets_all set word ≡ true) (sets_of c.args.self.now) _ [] 0
    (same_map_length (λ set. set.conditions.items) c.args.self.now.words.items ∙ c.args.self.now.whole)
    (by_sixteen _
    c.least_word.ensures.is_one
    c.least_word-2.ensures.is_one
    c.number.ensures.low c.number.ensures.high
    c.number-2.ensures.low c.number-2.ensures.high
    c.number-3.ensures.low c.number-3.ensures.high
    c.number-4.ensures.low c.number-4.ensures.high
    c.number-5.ensures.low c.number-5.ensures.high
    c.number-6.ensures.low c.number-6.ensures.high
    c.number-7.ensures.low c.number-7.ensures.high)

pub returns-clause-is_least : goal.returns-clause-is_least
returns-clause-is_least c = λ input fits within.
    let R : List Condition → ℕ → Type 0 = λ (set : List Condition) (word : ℕ). meets_all set word ≡ true in
    let sets = sets_of c.args.self.now in
    let words = words_of input in
    let l : length words ≡ 16 = sixteen input fits in
    let small : (k : ℕ) → get_or words k 0 < 2 ^ 32 = λ k. word_fits input k fits in
    let at : (k : ℕ) → k < 16 → meets_all (get_or sets k []) (get_or words k 0) ≡ true = λ k lt. zip_at R sets words k [] 0 within (omega (arith, l, lt)) in
    let own : List ℕ = c.least_word.result ∷ c.least_word-2.result ∷ c.number.result % 2 ^ 32 ∷ c.number.result / 2 ^ 32 ∷ c.number-2.result % 2 ^ 32 ∷ c.number-2.result / 2 ^ 32 ∷ c.number-3.result % 2 ^ 32 ∷ c.number-3.result / 2 ^ 32 ∷ c.number-4.result % 2 ^ 32 ∷ c.number-4.result / 2 ^ 32 ∷ c.number-5.result % 2 ^ 32 ∷ c.number-5.result / 2 ^ 32 ∷ c.number-6.result % 2 ^ 32 ∷ c.number-6.result / 2 ^ 32 ∷ c.number-7.result % 2 ^ 32 ∷ c.number-7.result / 2 ^ 32 ∷ [] in
    zip_from_places (λ (one other : ℕ). one ≤ other) own words 0 0 (sym l)
    (λ k lt. by_sixteen (λ k. get_or own k 0 ≤ get_or words k 0)
    (c.least_word.ensures.is_least _ (small 0) (at 0 (omega arith)))
    (c.least_word-2.ensures.is_least _ (small 1) (at 1 (omega arith)))
    (c.number.ensures.least_low _ (small 2) (at 2 (omega arith))) (c.number.ensures.least_high _ (small 3) (at 3 (omega arith)))
    (c.number-2.ensures.least_low _ (small 4) (at 4 (omega arith))) (c.number-2.ensures.least_high _ (small 5) (at 5 (omega arith)))
    (c.number-3.ensures.least_low _ (small 6) (at 6 (omega arith))) (c.number-3.ensures.least_high _ (small 7) (at 7 (omega arith)))
    (c.number-4.ensures.least_low _ (small 8) (at 8 (omega arith))) (c.number-4.ensures.least_high _ (small 9) (at 9 (omega arith)))
    (c.number-5.ensures.least_low _ (small 10) (at 10 (omega arith))) (c.number-5.ensures.least_high _ (small 11) (at 11 (omega arith)))
    (c.number-6.ensures.least_low _ (small 12) (at 12 (omega arith))) (c.number-6.ensures.least_high _ (small 13) (at 13 (omega arith)))
    (c.number-7.ensures.least_low _ (small 14) (at 14 (omega arith))) (c.number-7.ensures.least_high _ (small 15) (at 15 (omega arith)))
    k (omega (arith, lt, l)))
