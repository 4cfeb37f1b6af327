pub mod Accepted
pub mod Counts
pub mod Prints
