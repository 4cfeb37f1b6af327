-- The lemmas of `report_text` that crates above take from here.
pub use Rattle.report_text.proofs.More as More
