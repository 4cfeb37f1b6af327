pub mod Offers
pub mod Laws
pub mod Ways
pub mod Entering
pub mod Showing
pub mod Uncovering
pub mod Taking
pub mod Exposures
pub mod Launching
pub mod Spared
pub mod Blindness
pub mod launcher
pub mod reach_paths
pub use Rattle.launcher.specs.abs_path as abs_path
pub use Rattle.launcher.specs.bpf_code as bpf_code
pub use Rattle.launcher.specs.call_rules as call_rules
pub use Rattle.launcher.specs.call_table as call_table
pub use Rattle.launcher.specs.cap_sets as cap_sets
pub use Rattle.launcher.specs.cred_settings as cred_settings
pub use Rattle.launcher.specs.dropin_merge as dropin_merge
pub use Rattle.launcher.specs.exec_settings as exec_settings
pub use Rattle.launcher.specs.kern_creds as kern_creds
pub use Rattle.launcher.specs.kern_mounts as kern_mounts
pub use Rattle.launcher.specs.kernel_laws as kernel_laws
pub use Rattle.launcher.specs.kernel_model as kernel_model
pub use Rattle.launcher.specs.linux_numbers as linux_numbers
pub use Rattle.launcher.specs.mount_plan as mount_plan
pub use Rattle.launcher.specs.mount_settings as mount_settings
pub use Rattle.launcher.specs.path_settings as path_settings
pub use Rattle.launcher.specs.site_table as site_table
