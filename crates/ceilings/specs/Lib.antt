pub mod Passing
pub mod Leads
pub mod Ruled
pub mod Owners
pub mod Own
pub mod Sparing
pub mod Bounds
pub mod kernel_ways
pub use Rattle.kernel_ways.specs.abs_path as abs_path
pub use Rattle.kernel_ways.specs.bpf_code as bpf_code
pub use Rattle.kernel_ways.specs.call_rules as call_rules
pub use Rattle.kernel_ways.specs.call_table as call_table
pub use Rattle.kernel_ways.specs.cap_sets as cap_sets
pub use Rattle.kernel_ways.specs.cred_settings as cred_settings
pub use Rattle.kernel_ways.specs.dropin_merge as dropin_merge
pub use Rattle.kernel_ways.specs.exec_settings as exec_settings
pub use Rattle.kernel_ways.specs.kern_creds as kern_creds
pub use Rattle.kernel_ways.specs.kern_mounts as kern_mounts
pub use Rattle.kernel_ways.specs.kernel_laws as kernel_laws
pub use Rattle.kernel_ways.specs.kernel_model as kernel_model
pub use Rattle.kernel_ways.specs.launcher as launcher
pub use Rattle.kernel_ways.specs.linux_numbers as linux_numbers
pub use Rattle.kernel_ways.specs.mount_plan as mount_plan
pub use Rattle.kernel_ways.specs.mount_settings as mount_settings
pub use Rattle.kernel_ways.specs.path_settings as path_settings
pub use Rattle.kernel_ways.specs.reach_paths as reach_paths
pub use Rattle.kernel_ways.specs.site_table as site_table
