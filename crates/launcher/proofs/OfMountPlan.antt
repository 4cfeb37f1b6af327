-- The lemmas of `mount_plan` that crates above take from here.
pub use Rattle.mount_plan.proofs.BothPlans as BothPlans
pub use Rattle.mount_plan.proofs.Resting as Resting
