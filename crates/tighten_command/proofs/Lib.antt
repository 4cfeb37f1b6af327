pub mod Telling
pub mod Prepared
pub mod Reading
pub mod Sets
pub mod Searched
pub mod Found
pub mod Served
