pub mod Report
pub mod Asked
pub mod Prepared
pub mod Started
pub mod Prints
