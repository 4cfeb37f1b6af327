pub mod Changes
pub mod ByRule
pub mod Found
