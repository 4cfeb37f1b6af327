pub mod Tests
pub mod Policy
pub mod Reading
pub mod Steps
pub mod Exact
