-- The definitions of `kernel_laws` that crates above take from here.
pub use Rattle.kernel_laws.specs.Blind as Blind
pub use Rattle.kernel_laws.specs.Bound as Bound
pub use Rattle.kernel_laws.specs.Bounds as Bounds
pub use Rattle.kernel_laws.specs.Ceiling as Ceiling
pub use Rattle.kernel_laws.specs.Denied as Denied
pub use Rattle.kernel_laws.specs.FirstChoice as FirstChoice
pub use Rattle.kernel_laws.specs.Kinds as Kinds
pub use Rattle.kernel_laws.specs.Launched as Launched
pub use Rattle.kernel_laws.specs.PlainCalls as PlainCalls
pub use Rattle.kernel_laws.specs.Questions as Questions
pub use Rattle.kernel_laws.specs.Reach as Reach
pub use Rattle.kernel_laws.specs.Spared as Spared
pub use Rattle.kernel_laws.specs.declared as declared
