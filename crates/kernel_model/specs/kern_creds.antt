-- The definitions of `kern_creds` that crates above use through this crate.
pub use Rattle.kern_creds.specs.Capset as Capset
pub use Rattle.kern_creds.specs.Enter as Enter
pub use Rattle.kern_creds.specs.Exec as Exec
pub use Rattle.kern_creds.specs.Ids as Ids
pub use Rattle.kern_creds.specs.Prctl as Prctl
pub use Rattle.kern_creds.specs.Ring as Ring
pub use Rattle.kern_creds.specs.RootChange as RootChange
pub use Rattle.kern_creds.specs.Setgroups as Setgroups
pub use Rattle.kern_creds.specs.Setresuid as Setresuid
pub use Rattle.kern_creds.specs.Setuid as Setuid
pub use Rattle.kern_creds.specs.Start as Start
pub use Rattle.kern_creds.specs.declared as declared
