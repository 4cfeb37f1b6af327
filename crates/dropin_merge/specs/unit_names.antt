-- The definitions of `unit_names` that crates above take from here.
pub use Rattle.unit_names.specs.Cutting as Cutting
pub use Rattle.unit_names.specs.Expansion as Expansion
pub use Rattle.unit_names.specs.Names as Names
pub use Rattle.unit_names.specs.Versions as Versions
pub use Rattle.unit_names.specs.declared as declared
