-- The lemmas of `mount_settings` that crates above take from here.
pub use Rattle.mount_settings.proofs.SameUnits as SameUnits
