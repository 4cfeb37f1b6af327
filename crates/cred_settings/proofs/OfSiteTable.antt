-- The lemmas of `site_table` that crates above take from here.
pub use Rattle.site_table.proofs.Exact as Exact
pub use Rattle.site_table.proofs.Finding as Finding
