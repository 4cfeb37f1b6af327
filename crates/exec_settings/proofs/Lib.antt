pub mod FilterSame
pub mod Alone
pub mod Asked
pub mod Others
pub mod ShortKeys
pub mod Lasts
pub mod Launching
pub mod Noted
pub mod Mounted
pub mod Outside
pub mod Prefixed
pub mod Reasons
pub mod Searching
pub mod Seen
pub mod Whole
pub mod OtherSites
pub mod OfCredSettings
pub mod OfFilterSettings
pub mod OfMountSettings
pub use Rattle.mount_settings.proofs.OfAbsPath as OfAbsPath
pub use Rattle.cred_settings.proofs.OfCapSets as OfCapSets
pub use Rattle.cred_settings.proofs.OfDropinMerge as OfDropinMerge
pub use Rattle.cred_settings.proofs.OfHostIo as OfHostIo
pub use Rattle.mount_settings.proofs.OfPathSettings as OfPathSettings
pub use Rattle.cred_settings.proofs.OfSiteTable as OfSiteTable
pub use Rattle.cred_settings.proofs.OfTextForms as OfTextForms
