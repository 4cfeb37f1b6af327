-- The definitions of `toml_shapes` that crates above take from here.
pub use Rattle.toml_shapes.specs.Keys as Keys
pub use Rattle.toml_shapes.specs.Tree as Tree
