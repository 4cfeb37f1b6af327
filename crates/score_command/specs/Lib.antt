pub mod Policies
pub mod Weights
pub mod Refusals
pub mod Prepared
pub mod Weighed
pub mod Texts
pub mod Prints
pub use Rattle.report_text.specs.exposure_score as exposure_score
pub mod fleet_command
