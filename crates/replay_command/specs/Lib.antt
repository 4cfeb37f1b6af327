pub mod Lines
pub mod Performed
pub mod Texts
pub mod Prepared
pub mod Started
pub mod Prints
pub mod asked_service
