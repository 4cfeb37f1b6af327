-- The definitions of `host_io` that crates above take from here.
pub use Rattle.host_io.specs.Calls as Calls
pub use Rattle.host_io.specs.Causes as Causes
pub use Rattle.host_io.specs.Agreeing as Agreeing
pub use Rattle.host_io.specs.Files as Files
pub use Rattle.host_io.specs.Puts as Puts
pub use Rattle.host_io.specs.Reading as Reading
pub use Rattle.host_io.specs.Writing as Writing
pub use Rattle.host_io.specs.declared as declared
