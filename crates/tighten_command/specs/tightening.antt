pub mod Items
pub mod Open
pub mod Wishes
pub mod Tried
pub mod Tight
pub mod Searching
