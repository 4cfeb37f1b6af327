pub mod Places
pub mod Arena
