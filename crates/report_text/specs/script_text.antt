-- The definitions of `script_text` that crates above take from here.
pub use Rattle.script_text.specs.Causes as Causes
pub use Rattle.script_text.specs.Printed as Printed
pub use Rattle.script_text.specs.Scripts as Scripts
pub use Rattle.script_text.specs.declared as declared
