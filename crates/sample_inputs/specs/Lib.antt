pub mod Calls
pub mod CallTable
pub mod Members
pub mod Site
pub mod Unit
pub mod Made
pub mod Facts
pub mod sample_launch
pub use Rattle.launcher.specs.cap_sets as cap_sets
