pub mod Ends
pub mod Plans
pub mod Prepared
pub mod OfUnitInputs
pub use Rattle.unit_inputs.proofs.OfTextForms as OfTextForms
