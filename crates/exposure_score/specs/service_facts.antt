pub mod Sandbox
pub mod Table
pub mod Badness
pub mod Each
pub mod Facts
