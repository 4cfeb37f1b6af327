-- The definitions of `abs_path` that crates above take from here.
pub use Rattle.abs_path.specs.ByteOrder as ByteOrder
pub use Rattle.abs_path.specs.Paths as Paths
pub use Rattle.abs_path.specs.Prefix as Prefix
pub use Rattle.abs_path.specs.Read as Read
pub use Rattle.abs_path.specs.declared as declared
