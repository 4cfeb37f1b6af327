pub mod Growth
pub mod Names
pub mod Calling
pub mod Putting
pub mod FolderNames
mod Walks
