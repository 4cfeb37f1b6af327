-- The lemmas of `text_forms` that crates above take from here.
pub use Rattle.text_forms.proofs.Bounded as Bounded
pub use Rattle.text_forms.proofs.Escapes as Escapes
pub use Rattle.text_forms.proofs.Layouts as Layouts
pub use Rattle.text_forms.proofs.Numerals as Numerals
