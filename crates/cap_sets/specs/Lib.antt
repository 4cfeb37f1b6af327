pub mod Sets
pub mod Names
pub mod linux_numbers
