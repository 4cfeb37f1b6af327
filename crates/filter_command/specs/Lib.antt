pub mod Lines
pub mod Compiled
pub mod Prints
