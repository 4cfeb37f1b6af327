-- The definitions of `asked_service` that crates above take from here.
pub use Rattle.asked_service.specs.declared as declared
