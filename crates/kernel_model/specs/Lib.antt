pub mod Effects
pub mod MountNamespaces
pub mod World
pub mod Step
pub mod StepCases
pub mod Memory
pub mod MountStep
pub mod Runs
pub mod Worlds
pub mod Laws
pub mod Replies
pub mod Parts
pub mod State
pub mod kernel_calls
pub mod kern_files
pub mod call_table
pub mod kern_creds
pub mod kern_mounts
pub mod site_table
pub use Rattle.site_table.specs.abs_path as abs_path
pub use Rattle.site_table.specs.cap_sets as cap_sets
pub use Rattle.call_table.specs.text_forms as text_forms
