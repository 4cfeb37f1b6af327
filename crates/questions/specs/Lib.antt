pub mod Listed
pub mod kernel_laws
pub use Rattle.kernel_laws.specs.filter_settings as filter_settings
pub use Rattle.kernel_laws.specs.kernel_model as kernel_model
pub use Rattle.kernel_laws.specs.linux_numbers as linux_numbers
