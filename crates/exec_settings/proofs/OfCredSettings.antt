-- The lemmas of `cred_settings` that crates above take from here.
pub use Rattle.cred_settings.proofs.InRange as InRange
