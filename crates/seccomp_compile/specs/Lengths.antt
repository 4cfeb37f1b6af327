-- How long the code of a decision tree is at most, and each path through it.
use Rattle.std.specs.Prelude.{ℕ, ◌+◌, ◌≤◌, ◌==◌, nat_le, Bool, true, false, if◌then◌else◌}
use Rattle.seccomp_compile.specs.Code.{whole_word}
use Rattle.seccomp_compile.specs.Decisions.{Decision, ends, looks, splits, both, is_end}

-- The most instructions between a comparison and the tree with which it continues if it holds: so few that the comparison leads
-- there without a jump.
abbrev pub most_between : ℕ
most_between = 50

-- one more instruction, a jump, is wanted only over longer code, and never to an ending
abbrev pub jumps : Bool → ℕ → ℕ
jumps true between = 0
jumps false between = if nat_le between most_between then 0 else 1

-- a load, and a mask where it is not the whole word
abbrev pub look_len : ℕ → ℕ
look_len mask = if mask == whole_word then 1 else 2

-- a jump is needed to an ending that is elsewhere
abbrev pub hop : Bool → ℕ
hop true = 1
hop false = 0

-- as many instructions as the code of a tree has at most
abbrev pub most_of : Decision → ℕ
most_of (ends action) = 1
most_of (looks offset mask next) = look_len mask + hop (is_end next) + most_of next
most_of (splits comparison number miss hit) = 1 + jumps (is_end hit) (most_of miss) + most_of miss + most_of hit
most_of (both first second action otherwise) = 7 + most_of otherwise

-- Every path through the code has at most so many instructions. A look has a load, a mask and a jump at most, a comparison itself and a
-- jump, and a test a load, a mask and a comparison.
abbrev pub PathWithin : ℕ → Decision → Type 0
PathWithin limit (ends action) = 1 ≤ limit
PathWithin limit (looks offset mask next) = (rest : ℕ) × PathWithin rest next × (rest + 3 ≤ limit)
PathWithin limit (splits comparison number miss hit) = (rest : ℕ) × PathWithin rest miss × PathWithin rest hit × (rest + 2 ≤ limit)
PathWithin limit (both first second action otherwise) = (rest : ℕ) × PathWithin rest otherwise × (rest + 6 ≤ limit) × (7 ≤ limit)
