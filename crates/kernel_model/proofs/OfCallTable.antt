-- The lemmas of `call_table` that crates above take from here.
pub use Rattle.call_table.proofs.AllCalls as AllCalls
pub use Rattle.call_table.proofs.Back as Back
pub use Rattle.call_table.proofs.Meant as Meant
pub use Rattle.call_table.proofs.Places as Places
pub use Rattle.call_table.proofs.Steps as Steps
