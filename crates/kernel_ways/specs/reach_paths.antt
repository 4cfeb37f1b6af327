-- The definitions of `reach_paths` that crates above take from here.
pub use Rattle.reach_paths.specs.First as First
pub use Rattle.reach_paths.specs.Needs as Needs
pub use Rattle.reach_paths.specs.declared as declared
