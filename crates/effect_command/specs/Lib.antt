pub mod Lines
pub mod Longer
pub mod Refusals
pub mod Prints
pub mod Told
pub mod Stopping
pub use Rattle.asked_service.specs.kernel_laws as kernel_laws
