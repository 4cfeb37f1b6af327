-- The definitions of `text_forms` that crates above take from here.
pub use Rattle.text_forms.specs.Booleans as Booleans
pub use Rattle.text_forms.specs.Errnos as Errnos
pub use Rattle.text_forms.specs.Escaped as Escaped
pub use Rattle.text_forms.specs.Grammar as Grammar
pub use Rattle.text_forms.specs.Numbers as Numbers
pub use Rattle.text_forms.specs.Words as Words
pub use Rattle.text_forms.specs.line_text as line_text
pub use Rattle.text_forms.specs.declared as declared
