-- The definitions of `exec_settings` that crates above take from here.
pub use Rattle.exec_settings.specs.AreSettings as AreSettings
pub use Rattle.exec_settings.specs.Bounding as Bounding
pub use Rattle.exec_settings.specs.Commands as Commands
pub use Rattle.exec_settings.specs.Dynamic as Dynamic
pub use Rattle.exec_settings.specs.Filtered as Filtered
pub use Rattle.exec_settings.specs.Groups as Groups
pub use Rattle.exec_settings.specs.Keys as Keys
pub use Rattle.exec_settings.specs.KnownCommands as KnownCommands
pub use Rattle.exec_settings.specs.Launched as Launched
pub use Rattle.exec_settings.specs.Mounts as Mounts
pub use Rattle.exec_settings.specs.OtherSites as OtherSites
pub use Rattle.exec_settings.specs.Profile as Profile
pub use Rattle.exec_settings.specs.Refusals as Refusals
pub use Rattle.exec_settings.specs.RunsAs as RunsAs
pub use Rattle.exec_settings.specs.Search as Search
pub use Rattle.exec_settings.specs.Settings as Settings
pub use Rattle.exec_settings.specs.declared as declared
