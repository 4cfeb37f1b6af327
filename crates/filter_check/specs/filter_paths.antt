pub mod Form
pub mod Traces
pub mod Regions
pub mod Comparing
pub mod Covered
pub mod Walked
