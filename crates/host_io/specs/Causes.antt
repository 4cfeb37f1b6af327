-- A count of faults shows that the outside world has failed.
use Rattle.std.specs.Prelude.{◌≡◌, ◌≢◌, ℕ, ◌+◌, ◌-◌, ◌^◌, ◌≤◌, min, Result, Ok, Err}

-- one more than the count, which stays at the last value of its type
abbrev pub next_of : ℕ → ℕ
next_of n = min (n + 1) (2 ^ 64 - 1)

-- the count has risen in a call, or is at its last value
abbrev pub Rose : ℕ → ℕ → Type 0
Rose before now = next_of before ≤ now

-- the count stays as it was, unless the answer is this error
abbrev pub StaysUnless : {T E : Type 0} → E → ℕ → ℕ → Result T E → Type 0
StaysUnless fault before now (Ok value) = now ≡ before
StaysUnless fault before now (Err error) = error ≢ fault → now ≡ before
