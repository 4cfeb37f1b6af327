pub mod ByRule
pub mod Opening
pub mod Judging
