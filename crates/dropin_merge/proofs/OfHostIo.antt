-- The lemmas of `host_io` that crates above take from here.
pub use Rattle.host_io.proofs.Calling as Calling
pub use Rattle.host_io.proofs.Growth as Growth
