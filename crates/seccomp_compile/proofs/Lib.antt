pub mod OneBit
pub mod Steps
pub mod Places
pub mod Rising
pub mod Tiles
pub mod Bounds
pub mod Wide
pub mod Doubles
pub mod CaseTrees
pub mod Calls
pub mod Whole
pub use Rattle.call_rules.proofs.OfBpfCode as OfBpfCode
