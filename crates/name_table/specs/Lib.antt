pub mod Before
pub mod NameAt
pub mod Places
pub mod Rank
