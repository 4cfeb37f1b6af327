pub mod Ascending
pub mod OfBpfCode
