-- The definitions of `mount_settings` that crates above take from here.
pub use Rattle.mount_settings.specs.Assigned as Assigned
pub use Rattle.mount_settings.specs.Home as Home
pub use Rattle.mount_settings.specs.Implied as Implied
pub use Rattle.mount_settings.specs.Protections as Protections
pub use Rattle.mount_settings.specs.Roots as Roots
pub use Rattle.mount_settings.specs.Settings as Settings
pub use Rattle.mount_settings.specs.System as System
pub use Rattle.mount_settings.specs.Tmp as Tmp
pub use Rattle.mount_settings.specs.Written as Written
pub use Rattle.mount_settings.specs.declared as declared
