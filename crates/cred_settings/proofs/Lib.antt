pub mod Refusing
pub mod CapsNamed
pub mod WritingLemmas
pub mod NamedMembers
pub mod LastLineLemmas
pub mod LastSumLemmas
pub mod Folding
pub mod InRange
pub mod DynamicUsers
pub mod OfDropinMerge
pub mod OfSiteTable
pub use Rattle.site_table.proofs.OfCapSets as OfCapSets
pub use Rattle.dropin_merge.proofs.OfHostIo as OfHostIo
pub use Rattle.dropin_merge.proofs.OfTextForms as OfTextForms
