pub mod Aims
pub mod Bases
pub mod Firsts
pub mod Meanings
pub mod chosen_calls
