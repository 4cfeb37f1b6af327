pub mod Escaped
pub mod CapNames
pub mod Ids
pub mod ReadBack
pub mod Finding
