pub mod Words
pub mod Members
pub mod Naming
