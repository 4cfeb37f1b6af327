pub mod Tests
pub mod Wishes
pub mod Running
