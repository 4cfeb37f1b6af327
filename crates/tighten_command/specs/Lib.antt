pub mod Keeping
pub mod KeepFiles
pub mod Lines
pub mod Telling
pub mod Prints
pub mod tightening
