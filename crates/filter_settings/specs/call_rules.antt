-- The definitions of `call_rules` that crates above take from here.
pub use Rattle.call_rules.specs.Action as Action
pub use Rattle.call_rules.specs.Sizes as Sizes
pub use Rattle.call_rules.specs.declared as declared
