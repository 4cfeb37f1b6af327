-- Words of which some bits are known, and the least of them that meets all conditions.
use Rattle.std.specs.Prelude.{◌≡◌, ◌⊎◌, ◌≤◌, ◌<◌, ◌^◌, ℕ, ◌==◌, bit_and, Bool, true, false, not, List, Option, Some, None, IfSome}
use Rattle.std.specs.Int.{bit_at}
use Rattle.filter_check.specs.declared.word_sets.known.Cube.{Cube}
use Rattle.filter_check.specs.declared.word_sets.set.WordSet.{WordSet}
use Rattle.filter_check.specs.declared.word_sets.condition.Condition.{Condition}
use Rattle.filter_check.specs.declared.word_sets.choosing.Choice.{Choice}
use Rattle.filter_check.specs.declared.word_sets.choosing.Choice.TheVariants.{Meets, Misses, Splits}
use Rattle.filter_check.specs.word_sets.Conditions.{meets_all}

abbrev pub same : Bool → Bool → Bool
same true b = b
same false b = not b

-- the word has a 1 at the place
abbrev pub is_set : ℕ → ℕ → Bool
is_set word place = bit_at word place == 1

-- the word has the bits that are known
abbrev pub is_in : Cube → ℕ → Bool
is_in cube word = bit_and word cube.known == cube.bits

-- the set, if there is one, has the word
abbrev pub is_in_some : Option WordSet → ℕ → Bool
is_in_some None word = false
is_in_some (Some set) word = meets_all set.conditions.items word

-- there is a word, and it is at most this one
abbrev pub IsUpTo : Option ℕ → ℕ → Type 0
IsUpTo None word = ⊥
IsUpTo (Some told) word = told ≤ word

-- the word is of the cube and meets all conditions
abbrev pub IsWanted : List Condition → Cube → ℕ → Type 0
IsWanted conditions cube word = (word < 2 ^ 32) × (is_in cube word ≡ true) × (meets_all conditions word ≡ true)

-- the new word is the old one or a wanted one, and it is at most the old one and each wanted one
pub record IsLeastOf (conditions : List Condition) (cube : Cube) (old new : Option ℕ) : Type 0 where
  pub comes_of : (new ≡ old) ⊎ ((word : ℕ) × (new ≡ Some word) × IsWanted conditions cube word)
  pub kept : IfSome old (λ word. IsUpTo new word)
  pub no_later : (word : ℕ) → IsWanted conditions cube word → IsUpTo new word

-- the least word of the cube meets all conditions; or no word of the cube does; or the bit at the place is not known
abbrev pub IsChoice : List Condition → Cube → Choice → Type 0
IsChoice conditions cube Meets = meets_all conditions cube.bits ≡ true
IsChoice conditions cube Misses = (word : ℕ) → word < 2 ^ 32 → is_in cube word ≡ true → meets_all conditions word ≡ false
IsChoice conditions cube (Splits place free) = (place < 32) × (is_set cube.known place ≡ false)

-- the word is the least that meets all conditions; None if no word does
abbrev pub IsLeastWord : List Condition → Option ℕ → Type 0
IsLeastWord conditions None = (word : ℕ) → word < 2 ^ 32 → meets_all conditions word ≡ false
IsLeastWord conditions (Some least) = (meets_all conditions least ≡ true)
    × ((word : ℕ) → word < 2 ^ 32 → meets_all conditions word ≡ true → least ≤ word)
