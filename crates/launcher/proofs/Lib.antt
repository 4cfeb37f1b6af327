pub mod LaunchData
pub mod Leading
pub mod HostRoot
pub mod Solo
pub mod MakingPlan
pub mod RaisedAll
pub mod LaunchCreds
pub mod LaunchCalls
pub mod LaunchWorld
pub mod LaunchedWorlds
pub mod Alike
pub mod LaunchesAlike
pub mod TwoAbis
pub mod Matching
pub mod Conditions
pub mod Programs
pub mod Appending
pub mod CallsMade
pub mod Mounted
pub mod Found
pub mod Counted
pub mod Answered
pub mod UnitLaunched
pub mod OfExecSettings
pub mod OfKernelLaws
pub mod OfMountPlan
pub use Rattle.exec_settings.proofs.OfAbsPath as OfAbsPath
pub use Rattle.kernel_laws.proofs.OfBpfCode as OfBpfCode
pub use Rattle.kernel_laws.proofs.OfCallTable as OfCallTable
pub use Rattle.exec_settings.proofs.OfCapSets as OfCapSets
pub use Rattle.exec_settings.proofs.OfDropinMerge as OfDropinMerge
pub use Rattle.exec_settings.proofs.OfFilterSettings as OfFilterSettings
pub use Rattle.kernel_laws.proofs.OfKernMounts as OfKernMounts
pub use Rattle.kernel_laws.proofs.OfKernelModel as OfKernelModel
pub use Rattle.exec_settings.proofs.OfPathSettings as OfPathSettings
pub use Rattle.exec_settings.proofs.OfSiteTable as OfSiteTable
