pub mod Answers
pub mod Asking
pub mod Changed
pub mod Judging
pub mod KeyWalk
pub mod Places
pub mod Ranks
pub mod Resolving
pub mod Spots
pub mod Steps
pub mod Winners
pub mod unit_values
pub mod host_io
pub mod unit_grammar
pub mod unit_names
pub use Rattle.unit_grammar.specs.linux_numbers as linux_numbers
pub use Rattle.unit_grammar.specs.text_forms as text_forms
