-- The definitions of `unit_grammar` that crates above take from here.
pub use Rattle.unit_grammar.specs.Before as Before
pub use Rattle.unit_grammar.specs.Causes as Causes
pub use Rattle.unit_grammar.specs.Kinds as Kinds
pub use Rattle.unit_grammar.specs.Lines as Lines
pub use Rattle.unit_grammar.specs.Reading as Reading
pub use Rattle.unit_grammar.specs.Spaces as Spaces
pub use Rattle.unit_grammar.specs.declared as declared
