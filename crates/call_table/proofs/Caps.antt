-- The first capability of a name.
use Rattle.std.proofs.Common.{◌≡◌, ℕ, ◌<◌, true, false, [], List, Some, None, sym}
use Rattle.std.specs.Str.{bytes_eq}
use Rattle.cap_sets.specs.Names.{names, name_of}
use Rattle.call_table.specs.Numbers.{cap_of}
use Rattle.call_table.proofs.Places.{place_found, place_nowhere}

pub cap_found : (word : List ℕ) (number : ℕ) → number < 41 → ((k : ℕ) → k < number → bytes_eq (name_of k) word ≡ false)
    → bytes_eq (name_of number) word ≡ true → Some number ≡ cap_of word
unfolding name_of cap_of
cap_found word number h before here = sym (place_found (λ name. bytes_eq name word) names number [] h before here)

pub cap_nowhere : (word : List ℕ) → ((k : ℕ) → k < 41 → bytes_eq (name_of k) word ≡ false) → None ≡ cap_of word
unfolding name_of cap_of
cap_nowhere word none = sym (place_nowhere (λ name. bytes_eq name word) names [] none)
