use Rattle.std.proofs.Common.{◌≡◌, ◌<◌, ℕ, true, List, [], ◌∷◌, map, length, sym, ◌∙◌, arith}
use Rattle.std.specs.List.{AllZip, AllByRecursion}
use Rattle.filter_check.specs.declared.word_sets.condition.Condition.{Condition}
use Rattle.filter_check.specs.declared.word_sets.set.WordSet.{WordSet}
use Rattle.filter_check.specs.word_sets.Conditions.{meets_all}
use Rattle.seccomp_compile.specs.bpf_code.Effects.{words_of}
use Rattle.filter_check.proofs.Words.{sixteen}
use Rattle.filter_check.proofs.filter_paths.region.Region.all.Goals as goal

any_words : (sets : List WordSet) (words : List ℕ) → length sets ≡ length words
    → AllByRecursion (λ set. (word : ℕ) → meets_all set.conditions.items word ≡ true) sets
    → AllZip (λ (set : List Condition) (word : ℕ). meets_all set word ≡ true) (map (λ set. set.conditions.items) sets) words
any_words [] [] l h = tt
any_words [] (word ∷ words) l h = absurd (omega (arith, l))
any_words (set ∷ sets) [] l h = absurd (omega (arith, l))
any_words (set ∷ sets) (word ∷ words) l h = (h.0 word, any_words sets words (omega (arith, l)) h.1)

pub returns : goal.returns
returns c = record {
  every_call = λ input fits.
      let l = sixteen input fits in
      let all : length c.loop-alloc.words.items ≡ 16 = omega (arith, c.loop-alloc.invariant.few, c.loop-alloc-test.false, c.len.ensures, c.loop-alloc.words.ok.0) in
      any_words c.loop-alloc.words.items (words_of input) (all ∙ sym l) c.loop-alloc.invariant.any;
}
