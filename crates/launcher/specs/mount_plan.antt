-- The definitions of `mount_plan` that crates above take from here.
pub use Rattle.mount_plan.specs.Answers as Answers
pub use Rattle.mount_plan.specs.AsView as AsView
pub use Rattle.mount_plan.specs.Form as Form
pub use Rattle.mount_plan.specs.Host as Host
pub use Rattle.mount_plan.specs.Plan as Plan
pub use Rattle.mount_plan.specs.Planned as Planned
pub use Rattle.mount_plan.specs.Resting as Resting
pub use Rattle.mount_plan.specs.declared as declared
