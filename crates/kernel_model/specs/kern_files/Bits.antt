-- Tests of a call's flags by masks.
use Rattle.std.specs.Prelude.{ℕ, ◌==◌, not, Bool}
use Rattle.std.specs.Int.RustNames.{bit_and}

-- some bit of the mask is set
abbrev pub has_some : ℕ → ℕ → Bool
has_some mask flags = not (bit_and flags mask == 0)

-- every bit of the mask is set
abbrev pub has_all : ℕ → ℕ → Bool
has_all mask flags = bit_and flags mask == mask
