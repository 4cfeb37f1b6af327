-- The lemmas of `dropin_merge` that crates above take from here.
pub use Rattle.dropin_merge.proofs.Asking as Asking
pub use Rattle.dropin_merge.proofs.Left as Left
pub use Rattle.dropin_merge.proofs.Listed as Listed
pub use Rattle.dropin_merge.proofs.Looping as Looping
pub use Rattle.dropin_merge.proofs.OneMore as OneMore
pub use Rattle.dropin_merge.proofs.Ordered as Ordered
pub use Rattle.dropin_merge.proofs.Reading as Reading
pub use Rattle.dropin_merge.proofs.Sections as Sections
