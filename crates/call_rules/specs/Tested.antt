-- A test of an argument of a call.
use Rattle.std.specs.Prelude.{ℕ}

-- which argument, which of its low 32 bits are looked at, and what they are to be
pub record Tested : Type 0 where
  pub arg : ℕ
  pub mask : ℕ
  pub value : ℕ
