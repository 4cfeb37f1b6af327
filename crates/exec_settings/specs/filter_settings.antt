-- The definitions of `filter_settings` that crates above take from here.
pub use Rattle.filter_settings.specs.Architectures as Architectures
pub use Rattle.filter_settings.specs.CallLists as CallLists
pub use Rattle.filter_settings.specs.CallWords as CallWords
pub use Rattle.filter_settings.specs.Domains as Domains
pub use Rattle.filter_settings.specs.ErrorActions as ErrorActions
pub use Rattle.filter_settings.specs.FamilyLists as FamilyLists
pub use Rattle.filter_settings.specs.Lines as Lines
pub use Rattle.filter_settings.specs.Namespaces as Namespaces
pub use Rattle.filter_settings.specs.Settings as Settings
pub use Rattle.filter_settings.specs.filter_rules as filter_rules
pub use Rattle.filter_settings.specs.declared as declared
