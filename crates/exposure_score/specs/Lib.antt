pub mod Facts
pub mod Arithmetic
pub mod Badness
pub mod Rows
pub mod Stored
pub mod StoredTests
pub mod policy_file
pub mod service_facts
pub mod policy_weights
pub use Rattle.exec_settings.specs.abs_path as abs_path
pub use Rattle.exec_settings.specs.call_table as call_table
pub use Rattle.exec_settings.specs.cap_sets as cap_sets
pub use Rattle.exec_settings.specs.dropin_merge as dropin_merge
pub use Rattle.exec_settings.specs.mount_settings as mount_settings
pub use Rattle.exec_settings.specs.site_table as site_table
pub use Rattle.exec_settings.specs.text_forms as text_forms
pub use Rattle.exec_settings.specs.unit_grammar as unit_grammar
