-- The lemmas of `exec_settings` that crates above take from here.
pub use Rattle.exec_settings.proofs.FilterSame as FilterSame
pub use Rattle.exec_settings.proofs.OtherSites as OtherSites
pub use Rattle.exec_settings.proofs.OfMountSettings.SameUnits as SameUnits
