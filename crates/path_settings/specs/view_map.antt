pub mod View
pub mod Object
pub mod Scan
pub mod OnTheWay
pub mod Rules
pub mod Kept
pub mod Asked
pub mod Resting
