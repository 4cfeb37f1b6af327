pub mod Errnos
pub mod Capabilities
pub mod Actions
pub mod Limits
pub mod Namespaces
