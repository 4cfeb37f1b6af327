-- The definitions of `site_table` that crates above use through this crate.
pub use Rattle.site_table.specs.Exact as Exact
pub use Rattle.site_table.specs.Ids as Ids
pub use Rattle.site_table.specs.Keys as Keys
pub use Rattle.site_table.specs.Kinds as Kinds
pub use Rattle.site_table.specs.Order as Order
pub use Rattle.site_table.specs.Paths as Paths
pub use Rattle.site_table.specs.Reading as Reading
pub use Rattle.site_table.specs.Rows as Rows
pub use Rattle.site_table.specs.Table as Table
pub use Rattle.site_table.specs.declared as declared
