pub mod Lines
pub mod Without
pub mod Marks
pub mod Seen
