pub mod Questions
pub mod Denied
pub mod Kinds
pub mod Launched
pub mod PlainCalls
pub mod FirstChoice
pub mod Bounds
pub mod Reach
pub mod ReachLaws
pub mod Showing
pub mod Ceiling
pub mod Bound
pub mod Spared
pub mod Laws
pub mod Blind
pub mod NewerTables
pub mod filter_settings
pub mod kernel_model
pub use Rattle.kernel_model.specs.abs_path as abs_path
pub use Rattle.filter_settings.specs.bpf_code as bpf_code
pub use Rattle.filter_settings.specs.call_table as call_table
pub use Rattle.kernel_model.specs.cap_sets as cap_sets
pub use Rattle.kernel_model.specs.kern_creds as kern_creds
pub use Rattle.kernel_model.specs.kern_mounts as kern_mounts
pub use Rattle.filter_settings.specs.linux_numbers as linux_numbers
pub use Rattle.kernel_model.specs.site_table as site_table
