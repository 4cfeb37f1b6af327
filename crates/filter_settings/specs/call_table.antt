-- The definitions of `call_table` that crates above take from here.
pub use Rattle.call_table.specs.Causes as Causes
pub use Rattle.call_table.specs.Facts as Facts
pub use Rattle.call_table.specs.Faults as Faults
pub use Rattle.call_table.specs.Kernels as Kernels
pub use Rattle.call_table.specs.Kinds as Kinds
pub use Rattle.call_table.specs.Lookups as Lookups
pub use Rattle.call_table.specs.Members as Members
pub use Rattle.call_table.specs.Names as Names
pub use Rattle.call_table.specs.Numbers as Numbers
pub use Rattle.call_table.specs.Reading as Reading
pub use Rattle.call_table.specs.Table as Table
pub use Rattle.call_table.specs.call_names as call_names
pub use Rattle.call_table.specs.call_words as call_words
pub use Rattle.call_table.specs.declared as declared
