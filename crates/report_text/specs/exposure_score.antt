-- The definitions of `exposure_score` that crates above take from here.
pub use Rattle.exposure_score.specs.Rows as Rows
pub use Rattle.exposure_score.specs.Stored as Stored
pub use Rattle.exposure_score.specs.StoredTests as StoredTests
pub use Rattle.exposure_score.specs.policy_file as policy_file
pub use Rattle.exposure_score.specs.policy_weights as policy_weights
pub use Rattle.exposure_score.specs.service_facts as service_facts
pub use Rattle.exposure_score.specs.declared as declared
