-- The definitions of `tighten_command` that crates above take from here.
pub use Rattle.tighten_command.specs.tightening as tightening
