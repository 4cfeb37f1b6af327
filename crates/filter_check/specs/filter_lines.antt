pub mod Digits
pub mod Lines
pub mod Adding
pub mod Reading
