pub mod Outcomes
pub mod Lists
pub mod Places
pub mod Cases
pub mod Rooted
pub mod Kernels
pub mod Oldest
pub mod Sharing
pub mod Lifts
pub mod Apart
pub mod MountSteps
pub mod Search
pub mod Forms
pub mod OneRule
mod CanBind
mod Seeing
mod Mounted
mod Unmounted
pub mod MountsCall
pub mod OfCallTable
pub mod OfKernCreds
pub mod OfKernMounts
pub use Rattle.site_table.proofs.OfAbsPath as OfAbsPath
pub use Rattle.site_table.proofs.OfCapSets as OfCapSets
pub use Rattle.call_table.proofs.OfTextForms as OfTextForms
