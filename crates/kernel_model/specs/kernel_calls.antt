pub mod Words
pub mod Calls
pub mod Rules
pub mod Operation
pub mod Seen
