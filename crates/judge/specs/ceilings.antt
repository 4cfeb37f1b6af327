-- The definitions of `ceilings` that crates above take from here.
pub use Rattle.ceilings.specs.Own as Own
