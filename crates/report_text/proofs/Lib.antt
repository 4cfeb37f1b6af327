pub mod More
pub mod OfExposureScore
pub mod OfQuestions
pub use Rattle.exposure_score.proofs.OfAbsPath as OfAbsPath
pub use Rattle.exposure_score.proofs.OfDropinMerge as OfDropinMerge
pub use Rattle.exposure_score.proofs.OfSiteTable as OfSiteTable
pub use Rattle.exposure_score.proofs.OfTextForms as OfTextForms
