pub mod AllCalls
pub mod Among
pub mod Plain
pub mod Ascending
pub mod Pushing
pub mod Members
pub mod Order
