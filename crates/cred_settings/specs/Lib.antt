pub mod Ids
pub mod Users
pub mod Groups
pub mod FurtherGroups
pub mod Identities
pub mod Answers
pub mod CapNames
pub mod CapSums
pub mod CapLists
pub mod Bounding
pub mod Ambient
pub mod NewPrivileges
pub mod Steps
pub mod Writings
pub mod LastLines
pub mod LastSums
pub mod Ranges
pub mod dropin_merge
pub mod site_table
pub use Rattle.site_table.specs.cap_sets as cap_sets
pub use Rattle.dropin_merge.specs.host_io as host_io
pub use Rattle.dropin_merge.specs.linux_numbers as linux_numbers
pub use Rattle.dropin_merge.specs.text_forms as text_forms
pub use Rattle.site_table.specs.toml_shapes as toml_shapes
pub use Rattle.dropin_merge.specs.unit_grammar as unit_grammar
