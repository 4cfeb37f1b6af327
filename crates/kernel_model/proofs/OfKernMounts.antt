-- The lemmas of `kern_mounts` that crates above take from here.
pub use Rattle.kern_mounts.proofs.Backing as Backing
pub use Rattle.kern_mounts.proofs.Calls as Calls
pub use Rattle.kern_mounts.proofs.Entries as Entries
pub use Rattle.kern_mounts.proofs.Keeping as Keeping
pub use Rattle.kern_mounts.proofs.Leaving as Leaving
pub use Rattle.kern_mounts.proofs.Mounts as Mounts
pub use Rattle.kern_mounts.proofs.Paths as Paths
pub use Rattle.kern_mounts.proofs.Plain as Plain
pub use Rattle.kern_mounts.proofs.Showing as Showing
pub use Rattle.kern_mounts.proofs.Splits as Splits
pub use Rattle.kern_mounts.proofs.Unmounting as Unmounting
