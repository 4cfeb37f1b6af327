-- The definitions of `report_text` that crates above take from here.
pub use Rattle.report_text.specs.Answers as Answers
pub use Rattle.report_text.specs.Launches as Launches
pub use Rattle.report_text.specs.Notes as Notes
pub use Rattle.report_text.specs.Wording as Wording
pub use Rattle.report_text.specs.declared as declared
