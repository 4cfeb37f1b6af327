pub mod Flattened
pub mod Started
pub mod Compared
pub mod Prepared
