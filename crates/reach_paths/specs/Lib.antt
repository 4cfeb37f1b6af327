pub mod Finding
pub mod First
pub mod Needs
pub mod Mounting
pub mod Processes
