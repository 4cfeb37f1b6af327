-- The lemmas of `filter_settings` that crates above take from here.
pub use Rattle.filter_settings.proofs.Joined as Joined
