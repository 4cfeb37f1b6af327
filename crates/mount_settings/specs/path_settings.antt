-- The definitions of `path_settings` that crates above take from here.
pub use Rattle.path_settings.specs.Keys as Keys
pub use Rattle.path_settings.specs.Mentioned as Mentioned
pub use Rattle.path_settings.specs.Mentions as Mentions
pub use Rattle.path_settings.specs.Short as Short
pub use Rattle.path_settings.specs.view_map as view_map
pub use Rattle.path_settings.specs.systemd as systemd
pub use Rattle.path_settings.specs.declared as declared
