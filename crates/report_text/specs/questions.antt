-- The definitions of `questions` that crates above take from here.
pub use Rattle.questions.specs.Listed as Listed
