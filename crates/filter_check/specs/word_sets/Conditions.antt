-- Conditions on a word.
use Rattle.std.specs.Prelude.{ℕ, ◌==◌, nat_lt, bit_and, Bool, if◌then◌else◌, List}
use Rattle.std.specs.List.{list_all}
use Rattle.filter_check.specs.declared.word_sets.condition.Condition.{Condition}
use Rattle.filter_check.specs.declared.word_sets.condition.Orders.{Orders}

-- the order of the two numbers is a wanted one
abbrev pub wants : Orders → ℕ → ℕ → Bool
wants orders a b = if nat_lt a b then orders.below else (if a == b then orders.equal else orders.above)

-- the order of the word under the mask and the number is a wanted one
abbrev pub meets : Condition → ℕ → Bool
meets condition word = wants condition.orders (bit_and word condition.mask) condition.number

abbrev pub meets_all : List Condition → ℕ → Bool
meets_all conditions word = list_all (λ condition. meets condition word) conditions
