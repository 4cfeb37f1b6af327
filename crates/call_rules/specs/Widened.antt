-- An argument of a call whose high 32 bits are looked at.
use Rattle.std.specs.Prelude.{ℕ}
use Rattle.call_rules.specs.declared.actions.Action.{Action}

-- which argument it is, and the action where its high 32 bits are not 0
pub record Widened : Type 0 where
  pub arg : ℕ
  pub action : Action
