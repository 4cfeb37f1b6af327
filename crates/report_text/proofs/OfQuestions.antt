-- The lemmas of `questions` that crates above take from here.
pub use Rattle.questions.proofs.Among as Among
pub use Rattle.questions.proofs.Members as Members
