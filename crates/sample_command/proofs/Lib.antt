pub mod Ends
pub mod Prepared
pub mod Accepted
pub mod Counted
