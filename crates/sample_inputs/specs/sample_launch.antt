pub mod EndsWell
pub mod Shown
pub mod Mentions
pub mod Settled
pub mod Planned
