pub mod Sites
pub mod Worlds
pub mod Alike
pub mod ceilings
pub use Rattle.ceilings.specs.abs_path as abs_path
pub use Rattle.ceilings.specs.bpf_code as bpf_code
pub use Rattle.ceilings.specs.call_rules as call_rules
pub use Rattle.ceilings.specs.call_table as call_table
pub use Rattle.ceilings.specs.cap_sets as cap_sets
pub use Rattle.ceilings.specs.cred_settings as cred_settings
pub use Rattle.ceilings.specs.dropin_merge as dropin_merge
pub use Rattle.ceilings.specs.exec_settings as exec_settings
pub use Rattle.ceilings.specs.kern_creds as kern_creds
pub use Rattle.ceilings.specs.kern_mounts as kern_mounts
pub use Rattle.ceilings.specs.kernel_laws as kernel_laws
pub use Rattle.ceilings.specs.kernel_model as kernel_model
pub use Rattle.ceilings.specs.kernel_ways as kernel_ways
pub use Rattle.ceilings.specs.launcher as launcher
pub use Rattle.ceilings.specs.linux_numbers as linux_numbers
pub use Rattle.ceilings.specs.mount_plan as mount_plan
pub use Rattle.ceilings.specs.mount_settings as mount_settings
pub use Rattle.ceilings.specs.path_settings as path_settings
pub use Rattle.ceilings.specs.site_table as site_table
