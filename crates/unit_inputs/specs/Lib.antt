pub mod FileRefusals
pub mod UnitRefusals
pub mod CallsRefusals
pub mod SiteRefusals
pub mod Inputs
pub mod ReadsFor
pub mod Asking
pub mod SettingsRefusals
pub mod Settled
pub mod command_answers
pub mod exec_settings
pub use Rattle.exec_settings.specs.abs_path as abs_path
pub use Rattle.exec_settings.specs.call_table as call_table
pub use Rattle.exec_settings.specs.dropin_merge as dropin_merge
pub use Rattle.exec_settings.specs.filter_settings as filter_settings
pub use Rattle.exec_settings.specs.host_io as host_io
pub use Rattle.exec_settings.specs.site_table as site_table
pub use Rattle.exec_settings.specs.text_forms as text_forms
pub use Rattle.exec_settings.specs.unit_names as unit_names
