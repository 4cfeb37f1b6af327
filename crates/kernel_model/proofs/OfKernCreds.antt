-- The lemmas of `kern_creds` that crates above take from here.
pub use Rattle.kern_creds.proofs.Answers as Answers
