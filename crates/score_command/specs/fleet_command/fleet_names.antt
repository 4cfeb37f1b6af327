pub mod Units
pub mod Answers
pub mod Steps
pub mod Asking
