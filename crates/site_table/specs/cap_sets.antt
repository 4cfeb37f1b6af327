-- The definitions of `cap_sets` that crates above take from here.
pub use Rattle.cap_sets.specs.Names as Names
pub use Rattle.cap_sets.specs.Sets as Sets
