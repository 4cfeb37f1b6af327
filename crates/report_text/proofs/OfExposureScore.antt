-- The lemmas of `exposure_score` that crates above take from here.
pub use Rattle.exposure_score.proofs.ServiceFactsAccepted as ServiceFactsAccepted
pub use Rattle.exposure_score.proofs.Weights as Weights
