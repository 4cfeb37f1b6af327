pub mod Before
pub mod Causes
pub mod Joining
pub mod Kinds
pub mod Lines
pub mod Meaning
pub mod Progress
pub mod Reading
pub mod Spaces
pub mod Stretches
pub mod text_forms
pub use Rattle.text_forms.specs.linux_numbers as linux_numbers
