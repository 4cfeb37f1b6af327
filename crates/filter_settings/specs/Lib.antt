pub mod Architectures
pub mod Domains
pub mod ErrorActions
pub mod Lines
pub mod Modes
pub mod CallWords
pub mod CallLists
pub mod FamilyLists
pub mod Namespaces
pub mod Settings
pub mod Steps
pub mod filter_rules
pub mod call_rules
pub mod call_table
pub use Rattle.call_rules.specs.bpf_code as bpf_code
pub use Rattle.dropin_merge.specs.linux_numbers as linux_numbers
pub use Rattle.dropin_merge.specs.unit_names as unit_names
