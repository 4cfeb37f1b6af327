pub mod Solo
pub mod Choices
pub mod Lines
pub mod Rows
pub mod Operations
pub mod Performing
pub mod ByRing
pub mod Avoiding
pub mod Privileged
pub mod Exposing
pub mod Gains
pub mod Attained
pub mod Starts
pub mod Showing
pub mod Ids
pub mod Entering
pub mod InUser
pub mod Shown
pub mod Exact
pub mod FitQuestions
pub mod Uncovering
pub mod ByName
pub mod Unlooked
pub mod Counting
pub mod Serving
pub mod SparedLaws
pub mod SparedWays
pub mod BlindShown
pub mod OfLauncher
pub mod OfReachPaths
pub use Rattle.launcher.proofs.OfAbsPath as OfAbsPath
pub use Rattle.launcher.proofs.OfBpfCode as OfBpfCode
pub use Rattle.launcher.proofs.OfCallTable as OfCallTable
pub use Rattle.launcher.proofs.OfCapSets as OfCapSets
pub use Rattle.launcher.proofs.OfDropinMerge as OfDropinMerge
pub use Rattle.launcher.proofs.OfExecSettings as OfExecSettings
pub use Rattle.launcher.proofs.OfKernMounts as OfKernMounts
pub use Rattle.launcher.proofs.OfKernelLaws as OfKernelLaws
pub use Rattle.launcher.proofs.OfKernelModel as OfKernelModel
pub use Rattle.launcher.proofs.OfMountPlan as OfMountPlan
pub use Rattle.launcher.proofs.OfPathSettings as OfPathSettings
