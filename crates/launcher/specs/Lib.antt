pub mod Launch
pub mod Launches
pub mod LaunchedWorlds
pub mod Alike
pub mod LaunchesAlike
pub mod Matching
pub mod Conditions
pub mod Ends
pub mod Answers
pub mod exec_settings
pub mod kernel_laws
pub mod mount_plan
pub use Rattle.exec_settings.specs.abs_path as abs_path
pub use Rattle.kernel_laws.specs.bpf_code as bpf_code
pub use Rattle.exec_settings.specs.call_rules as call_rules
pub use Rattle.kernel_laws.specs.call_table as call_table
pub use Rattle.exec_settings.specs.cap_sets as cap_sets
pub use Rattle.exec_settings.specs.cred_settings as cred_settings
pub use Rattle.exec_settings.specs.dropin_merge as dropin_merge
pub use Rattle.exec_settings.specs.filter_settings as filter_settings
pub use Rattle.kernel_laws.specs.kern_creds as kern_creds
pub use Rattle.kernel_laws.specs.kern_mounts as kern_mounts
pub use Rattle.kernel_laws.specs.kernel_model as kernel_model
pub use Rattle.kernel_laws.specs.linux_numbers as linux_numbers
pub use Rattle.exec_settings.specs.mount_settings as mount_settings
pub use Rattle.exec_settings.specs.path_settings as path_settings
pub use Rattle.exec_settings.specs.site_table as site_table
pub use Rattle.exec_settings.specs.text_forms as text_forms
pub use Rattle.exec_settings.specs.toml_shapes as toml_shapes
pub use Rattle.exec_settings.specs.unit_grammar as unit_grammar
pub use Rattle.exec_settings.specs.unit_names as unit_names
