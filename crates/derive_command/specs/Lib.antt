pub mod Refusals
pub mod Prints
pub mod Telling
pub use Rattle.asked_service.specs.host_io as host_io
pub use Rattle.asked_service.specs.plan_command as plan_command
pub use Rattle.asked_service.specs.text_forms as text_forms
pub use Rattle.asked_service.specs.unit_inputs as unit_inputs
pub mod trace_profile
