-- The lemmas of `path_settings` that crates above take from here.
pub use Rattle.path_settings.proofs.Resting as Resting
pub use Rattle.path_settings.proofs.ViewMapLists as ViewMapLists
pub use Rattle.path_settings.proofs.ShortTexts as ShortTexts
