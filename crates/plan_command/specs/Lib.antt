pub mod Lines
pub mod Refusals
pub mod Planned
pub mod Prints
pub mod unit_inputs
pub use Rattle.unit_inputs.specs.host_io as host_io
pub use Rattle.unit_inputs.specs.text_forms as text_forms
pub use Rattle.unit_inputs.specs.unit_names as unit_names
