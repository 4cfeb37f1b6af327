pub mod Bare
pub mod Least
pub mod LeavingOut
pub mod Tried
pub mod Deciding
pub mod Searching
pub mod unit_lines
