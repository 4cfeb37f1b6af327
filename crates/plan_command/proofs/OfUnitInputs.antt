-- The lemmas of `unit_inputs` that crates above take from here.
pub use Rattle.unit_inputs.proofs.Asking as Asking
pub use Rattle.unit_inputs.proofs.Ended as Ended
pub use Rattle.unit_inputs.proofs.FileCommands as FileCommands
pub use Rattle.unit_inputs.proofs.Lines as Lines
pub use Rattle.unit_inputs.proofs.Ordering as Ordering
pub use Rattle.unit_inputs.proofs.Reading as Reading
pub use Rattle.unit_inputs.proofs.ReadyTexts as ReadyTexts
pub use Rattle.unit_inputs.proofs.Refusing as Refusing
pub use Rattle.unit_inputs.proofs.Runs as Runs
pub use Rattle.unit_inputs.proofs.Said as Said
pub use Rattle.unit_inputs.proofs.Steps as Steps
pub use Rattle.unit_inputs.proofs.Stopped as Stopped
pub use Rattle.unit_inputs.proofs.Texts as Texts
