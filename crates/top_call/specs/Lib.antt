pub mod Texts
pub mod Requests
pub mod Asked
pub mod Around
pub mod Promise
pub mod Statuses
pub mod tighten_command
pub use Rattle.replay_command.specs.asked_service as asked_service
pub use Rattle.score_command.specs.exposure_score as exposure_score
pub use Rattle.derive_command.specs.host_io as host_io
pub use Rattle.effect_command.specs.kernel_laws as kernel_laws
pub use Rattle.derive_command.specs.unit_inputs as unit_inputs
