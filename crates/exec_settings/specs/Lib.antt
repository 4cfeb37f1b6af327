pub mod Commands
pub mod KnownCommands
pub mod Launched
pub mod Search
pub mod Keys
pub mod Profile
pub mod Dynamic
pub mod RunsAs
pub mod Groups
pub mod Bounding
pub mod Filtered
pub mod Mounts
pub mod Judged
pub mod Notes
pub mod Order
pub mod Refusals
pub mod Settings
pub mod AreSettings
pub mod Bare
pub mod Sections
pub mod OtherSites
pub mod cred_settings
pub mod filter_settings
pub mod mount_settings
pub use Rattle.mount_settings.specs.abs_path as abs_path
pub use Rattle.filter_settings.specs.call_rules as call_rules
pub use Rattle.filter_settings.specs.call_table as call_table
pub use Rattle.cred_settings.specs.cap_sets as cap_sets
pub use Rattle.cred_settings.specs.dropin_merge as dropin_merge
pub use Rattle.cred_settings.specs.host_io as host_io
pub use Rattle.filter_settings.specs.linux_numbers as linux_numbers
pub use Rattle.mount_settings.specs.path_settings as path_settings
pub use Rattle.cred_settings.specs.site_table as site_table
pub use Rattle.cred_settings.specs.text_forms as text_forms
pub use Rattle.cred_settings.specs.toml_shapes as toml_shapes
pub use Rattle.cred_settings.specs.unit_grammar as unit_grammar
pub use Rattle.mount_settings.specs.unit_names as unit_names
