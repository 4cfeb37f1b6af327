pub mod Assigned
pub mod Written
pub mod Notes
pub mod Steps
pub mod Roots
pub mod Choices
pub mod System
pub mod Home
pub mod Tmp
pub mod Protections
pub mod Effects
pub mod Table
pub mod Implied
pub mod systemd
pub mod Settings
pub mod OneKey
pub mod path_settings
pub use Rattle.path_settings.specs.abs_path as abs_path
pub use Rattle.dropin_merge.specs.unit_names as unit_names
