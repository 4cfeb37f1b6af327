pub mod Unions
pub mod Growing
pub mod Spares
pub mod Given
pub mod Bounded
pub mod AllCalls
pub mod Sparing
pub mod Leading
pub mod Naming
pub mod Ruling
pub mod Chosen
pub mod InTurn
pub mod OfKernelWays
pub use Rattle.kernel_ways.proofs.OfAbsPath as OfAbsPath
pub use Rattle.kernel_ways.proofs.OfBpfCode as OfBpfCode
pub use Rattle.kernel_ways.proofs.OfCallTable as OfCallTable
pub use Rattle.kernel_ways.proofs.OfCapSets as OfCapSets
pub use Rattle.kernel_ways.proofs.OfDropinMerge as OfDropinMerge
pub use Rattle.kernel_ways.proofs.OfExecSettings as OfExecSettings
pub use Rattle.kernel_ways.proofs.OfKernMounts as OfKernMounts
pub use Rattle.kernel_ways.proofs.OfKernelLaws as OfKernelLaws
pub use Rattle.kernel_ways.proofs.OfKernelModel as OfKernelModel
pub use Rattle.kernel_ways.proofs.OfLauncher as OfLauncher
pub use Rattle.kernel_ways.proofs.OfMountPlan as OfMountPlan
pub use Rattle.kernel_ways.proofs.OfPathSettings as OfPathSettings
pub use Rattle.kernel_ways.proofs.OfReachPaths as OfReachPaths
