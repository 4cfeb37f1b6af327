-- The lemmas of `abs_path` that crates above take from here.
pub use Rattle.abs_path.proofs.ByteOrder as ByteOrder
pub use Rattle.abs_path.proofs.Placed as Placed
pub use Rattle.abs_path.proofs.Prefixes as Prefixes
pub use Rattle.abs_path.proofs.Reading as Reading
pub use Rattle.abs_path.proofs.Stripped as Stripped
