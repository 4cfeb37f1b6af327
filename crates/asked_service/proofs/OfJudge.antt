-- The lemmas of `judge` that crates above take from here.
pub use Rattle.judge.proofs.Folders as Folders
