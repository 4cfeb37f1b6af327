pub mod Asking
pub mod Lines
pub mod Prints
pub mod opening_lines
pub mod lines_command
pub mod deciding_lines
