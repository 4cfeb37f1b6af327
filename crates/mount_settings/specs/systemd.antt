pub mod Words
pub mod Keys
pub mod Rows
pub mod OwnMounts
pub mod Folders
pub mod Mentions
