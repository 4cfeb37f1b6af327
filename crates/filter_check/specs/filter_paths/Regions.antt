-- Sets of call data, word by word, and the content of the accumulator.
use Rattle.std.specs.Prelude.{◌≡◌, ℕ, true, List, map, bit_and, slice_index}
use Rattle.std.specs.List.{AllZip}
use Rattle.seccomp_compile.specs.bpf_code.declared.machine.CallData.{CallData}
use Rattle.seccomp_compile.specs.bpf_code.Effects.{words_of}
use Rattle.filter_check.specs.declared.word_sets.condition.Condition.{Condition}
use Rattle.filter_check.specs.word_sets.Conditions.{meets_all}
use Rattle.filter_check.specs.declared.filter_paths.region.Region.{Region}
use Rattle.filter_check.specs.declared.filter_paths.held.Held.{Held}

-- the conditions on each word
abbrev pub sets_of : Region → List (List Condition)
sets_of region = map (λ set. set.conditions.items) region.words.items

-- each word of the data meets all conditions of its place
abbrev pub AreWithin : List (List Condition) → List ℕ → Type 0
AreWithin sets words = AllZip (λ set word. meets_all set word ≡ true) sets words

abbrev pub IsWithin : Region → CallData → Type 0
IsWithin region input = AreWithin (sets_of region) (words_of input)

-- the content of the accumulator
abbrev pub held_word : Held → CallData → ℕ
held_word held input = bit_and (slice_index (words_of input) held.word) held.mask
