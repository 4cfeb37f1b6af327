pub mod Outcomes
pub mod Order
pub mod Comparing
pub mod Answers
pub mod Asking
