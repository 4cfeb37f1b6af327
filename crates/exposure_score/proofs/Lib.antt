pub mod Quotients
pub mod Sums
pub mod Walks
pub mod Known
pub mod Finding
pub mod Members
pub mod Accepted
pub mod Allowed
pub mod Bytes
pub mod Ordered
pub mod Exact
pub mod Read
pub mod ServiceFactsAccepted
pub mod Behind
pub mod Gathered
pub mod ServiceFactsKnown
pub mod Mapped
pub mod Telling
pub mod Weights
pub mod PolicyWeightsSums
pub use Rattle.exec_settings.proofs.OfAbsPath as OfAbsPath
pub use Rattle.exec_settings.proofs.OfDropinMerge as OfDropinMerge
pub use Rattle.exec_settings.proofs.OfSiteTable as OfSiteTable
pub use Rattle.exec_settings.proofs.OfTextForms as OfTextForms
