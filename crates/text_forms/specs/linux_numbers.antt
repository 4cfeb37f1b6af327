-- The definitions of `linux_numbers` that crates above take from here.
pub use Rattle.linux_numbers.specs.Actions as Actions
pub use Rattle.linux_numbers.specs.Capabilities as Capabilities
pub use Rattle.linux_numbers.specs.Errnos as Errnos
pub use Rattle.linux_numbers.specs.Limits as Limits
pub use Rattle.linux_numbers.specs.Namespaces as Namespaces
pub use Rattle.linux_numbers.specs.declared as declared
