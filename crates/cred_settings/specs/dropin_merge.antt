-- The definitions of `dropin_merge` that crates above take from here.
pub use Rattle.dropin_merge.specs.Asking as Asking
pub use Rattle.dropin_merge.specs.Changed as Changed
pub use Rattle.dropin_merge.specs.Places as Places
pub use Rattle.dropin_merge.specs.Resolving as Resolving
pub use Rattle.dropin_merge.specs.Winners as Winners
pub use Rattle.dropin_merge.specs.unit_names as unit_names
pub use Rattle.dropin_merge.specs.unit_values as unit_values
pub use Rattle.dropin_merge.specs.declared as declared
