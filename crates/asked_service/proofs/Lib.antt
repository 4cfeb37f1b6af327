pub mod Listed
pub mod Exact
pub mod Counted
pub mod OtherPrograms
pub mod Served
pub mod LaunchedUnits
pub mod Started
pub mod Given
pub mod OneLaunch
pub mod Answered
pub mod AnswerCounts
pub mod Named
pub mod Lent
pub mod Found
pub mod Changed
pub mod OfJudge
pub mod OfPlanCommand
pub mod OfReportText
pub use Rattle.judge.proofs.OfBpfCode as OfBpfCode
pub use Rattle.judge.proofs.OfCallTable as OfCallTable
pub use Rattle.judge.proofs.OfDropinMerge as OfDropinMerge
pub use Rattle.judge.proofs.OfExecSettings as OfExecSettings
pub use Rattle.judge.proofs.OfLauncher as OfLauncher
pub use Rattle.plan_command.proofs.OfTextForms as OfTextForms
pub use Rattle.plan_command.proofs.OfUnitInputs as OfUnitInputs
