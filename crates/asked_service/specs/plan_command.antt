-- The definitions of `plan_command` that crates above take from here.
pub use Rattle.plan_command.specs.Planned as Planned
pub use Rattle.plan_command.specs.Prints as Prints
pub use Rattle.plan_command.specs.Refusals as Refusals
