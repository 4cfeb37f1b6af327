-- The definitions of `open_calls` that crates above take from here.
pub use Rattle.open_calls.specs.chosen_calls as chosen_calls
pub use Rattle.open_calls.specs.declared as declared
