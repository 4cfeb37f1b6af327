pub mod First
pub mod Exposing
pub mod Gaining
pub mod Chosen
pub mod Makers
pub mod Laws
