pub mod PlainInputs
pub mod Prepared
pub mod Told
pub use Rattle.asked_service.proofs.OfPlanCommand as OfPlanCommand
pub use Rattle.asked_service.proofs.OfUnitInputs as OfUnitInputs
pub mod Lists
pub mod UsedMarks
pub mod Kept
pub mod Tried
pub mod TameBytes
pub mod DropInText
pub mod ListedWords
pub mod SameButCalls
pub mod AllowedNames
pub mod ExtendedUnit
pub mod AsEither
pub mod PushesNone
pub mod SameLists
pub mod NonePushed
pub mod Foretold
pub mod OneList
pub mod HeardAlike
pub mod CallsOfLines
pub mod PlainTables
pub mod Whole
pub mod Same
pub mod Either
pub mod Launches
