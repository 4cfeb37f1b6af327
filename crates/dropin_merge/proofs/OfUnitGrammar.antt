-- The lemmas of `unit_grammar` that crates above take from here.
pub use Rattle.unit_grammar.proofs.Befores as Befores
