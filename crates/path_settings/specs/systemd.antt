pub mod Modes
pub mod Entries
pub mod Written
pub mod Chosen
pub mod Listed
pub mod Made
pub mod View
