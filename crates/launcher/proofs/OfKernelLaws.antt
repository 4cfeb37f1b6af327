-- The lemmas of `kernel_laws` that crates above take from here.
pub use Rattle.kernel_laws.proofs.AskedQuestions as AskedQuestions
pub use Rattle.kernel_laws.proofs.Blind as Blind
pub use Rattle.kernel_laws.proofs.Bound as Bound
pub use Rattle.kernel_laws.proofs.Exposed as Exposed
pub use Rattle.kernel_laws.proofs.FilterChoices as FilterChoices
pub use Rattle.kernel_laws.proofs.Filters as Filters
pub use Rattle.kernel_laws.proofs.Held as Held
pub use Rattle.kernel_laws.proofs.KeptExec as KeptExec
pub use Rattle.kernel_laws.proofs.Numbered as Numbered
pub use Rattle.kernel_laws.proofs.Programs as Programs
pub use Rattle.kernel_laws.proofs.Reach as Reach
pub use Rattle.kernel_laws.proofs.ReachLaws as ReachLaws
pub use Rattle.kernel_laws.proofs.Runs as Runs
pub use Rattle.kernel_laws.proofs.SettingsChoose as SettingsChoose
pub use Rattle.kernel_laws.proofs.Verdict as Verdict
