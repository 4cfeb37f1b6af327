pub mod Paths
pub mod Prefix
pub mod ByteOrder
pub mod Read
pub mod Plain
pub mod Held
pub mod place_tree
