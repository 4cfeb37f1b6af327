mod Chained
mod Each
mod NextModes
mod Permitting
pub mod Joined
mod KnownOnes
pub mod Refusals
pub mod Chosen
pub mod Counted
pub mod Lasting
pub mod LowWords
pub mod WideValues
pub mod Mapped
pub mod Marked
pub mod Ordered
pub mod Room
pub mod RulesOf
pub mod Suited
pub mod SuitedFamilies
pub mod SuitedModes
pub mod SuitedNamespaces
pub mod SuitedSimple
pub mod Walked
pub mod OfCallTable
pub use Rattle.call_rules.proofs.OfBpfCode as OfBpfCode
