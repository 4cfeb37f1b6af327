pub mod Ended
pub mod Ordering
pub mod Reading
pub mod Steps
pub mod Asking
pub mod CommandAnswersEnded
pub mod FileCommands
pub mod ReadyTexts
pub mod Refusing
pub mod Lines
pub mod Texts
pub mod Runs
pub mod Stopped
pub mod Said
pub use Rattle.exec_settings.proofs.OfAbsPath as OfAbsPath
pub use Rattle.exec_settings.proofs.OfHostIo as OfHostIo
pub use Rattle.exec_settings.proofs.OfTextForms as OfTextForms
