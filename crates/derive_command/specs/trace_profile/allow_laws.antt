pub mod Either
pub mod Launches
