pub mod Numbered
pub mod Newer
pub mod MaskBits
pub mod NewerSteps
pub mod Moments
pub mod Filters
pub mod Done
pub mod Living
pub mod PlainCalls
pub mod Reach
pub mod ReachLaws
pub mod Kept
pub mod KeptIds
pub mod KeptExec
pub mod Ran
pub mod Steps
pub mod Runs
pub mod Bound
pub mod Held
pub mod Sound
pub mod Verdict
pub mod AskedQuestions
pub mod Programs
pub mod FirstWords
pub mod FilterChoices
pub mod SettingsChoose
pub mod Showing
pub mod MountOfPath
pub mod NewerTables
pub mod Blind
pub mod Exposed
pub mod ExposedByMount
pub mod OfKernelModel
pub use Rattle.kernel_model.proofs.OfAbsPath as OfAbsPath
pub use Rattle.filter_settings.proofs.OfBpfCode as OfBpfCode
pub use Rattle.filter_settings.proofs.OfCallTable as OfCallTable
pub use Rattle.kernel_model.proofs.OfKernMounts as OfKernMounts
