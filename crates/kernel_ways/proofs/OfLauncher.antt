-- The lemmas of `launcher` that crates above take from here.
pub use Rattle.launcher.proofs.Alike as Alike
pub use Rattle.launcher.proofs.CallsMade as CallsMade
pub use Rattle.launcher.proofs.Conditions as Conditions
pub use Rattle.launcher.proofs.HostRoot as HostRoot
pub use Rattle.launcher.proofs.LaunchCalls as LaunchCalls
pub use Rattle.launcher.proofs.LaunchCreds as LaunchCreds
pub use Rattle.launcher.proofs.LaunchData as LaunchData
pub use Rattle.launcher.proofs.LaunchWorld as LaunchWorld
pub use Rattle.launcher.proofs.LaunchesAlike as LaunchesAlike
pub use Rattle.launcher.proofs.Leading as Leading
pub use Rattle.launcher.proofs.Matching as Matching
pub use Rattle.launcher.proofs.Programs as Programs
pub use Rattle.launcher.proofs.Solo as Solo
pub use Rattle.launcher.proofs.TwoAbis as TwoAbis
