-- The lemmas of `reach_paths` that crates above take from here.
pub use Rattle.reach_paths.proofs.Looping as Looping
pub use Rattle.reach_paths.proofs.Naming as Naming
pub use Rattle.reach_paths.proofs.Parts as Parts
pub use Rattle.reach_paths.proofs.RowsOfSites as RowsOfSites
pub use Rattle.reach_paths.proofs.Serving as Serving
