pub mod Inputs
pub mod Refusals
pub mod Reports
pub mod Texts
pub mod Prints
pub mod Asking
pub mod fleet_report
pub mod fleet_names
