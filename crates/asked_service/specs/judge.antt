-- The definitions of `judge` that crates above take from here.
pub use Rattle.judge.specs.Alike as Alike
pub use Rattle.judge.specs.Sites as Sites
