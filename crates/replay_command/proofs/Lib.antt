pub mod Ends
pub mod RunTexts
pub mod Steps
pub mod Runs
pub mod InOrder
