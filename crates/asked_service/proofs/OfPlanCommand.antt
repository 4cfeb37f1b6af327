-- The lemmas of `plan_command` that crates above take from here.
pub use Rattle.plan_command.proofs.Prepared as Prepared
