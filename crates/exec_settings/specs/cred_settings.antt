-- The definitions of `cred_settings` that crates above take from here.
pub use Rattle.cred_settings.specs.Ambient as Ambient
pub use Rattle.cred_settings.specs.Bounding as Bounding
pub use Rattle.cred_settings.specs.CapLists as CapLists
pub use Rattle.cred_settings.specs.FurtherGroups as FurtherGroups
pub use Rattle.cred_settings.specs.Groups as Groups
pub use Rattle.cred_settings.specs.Identities as Identities
pub use Rattle.cred_settings.specs.NewPrivileges as NewPrivileges
pub use Rattle.cred_settings.specs.Users as Users
pub use Rattle.cred_settings.specs.declared as declared
