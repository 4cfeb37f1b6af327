-- The lemmas of `cap_sets` that crates above take from here.
pub use Rattle.cap_sets.proofs.Members as Members
pub use Rattle.cap_sets.proofs.Naming as Naming
pub use Rattle.cap_sets.proofs.Words as Words
