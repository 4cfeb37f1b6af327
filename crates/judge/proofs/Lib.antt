pub mod Sites
pub mod NoneBelow
pub mod Runs
pub mod LaunchIsBlind
pub mod ShownNothing
pub mod Noninterference
pub mod Asked
pub mod PlainCaps
pub mod Exposing
pub mod Folders
pub use Rattle.ceilings.proofs.OfBpfCode as OfBpfCode
pub use Rattle.ceilings.proofs.OfCallTable as OfCallTable
pub use Rattle.ceilings.proofs.OfDropinMerge as OfDropinMerge
pub use Rattle.ceilings.proofs.OfExecSettings as OfExecSettings
pub use Rattle.ceilings.proofs.OfKernelWays as OfKernelWays
pub use Rattle.ceilings.proofs.OfLauncher as OfLauncher
