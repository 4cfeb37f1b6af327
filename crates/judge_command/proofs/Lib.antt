pub mod Ends
pub mod Counted
pub mod Texts
pub mod Prepared
pub mod Runs
pub mod InOrder
