-- The definitions of `unit_inputs` that crates above take from here.
pub use Rattle.unit_inputs.specs.Asking as Asking
pub use Rattle.unit_inputs.specs.CallsRefusals as CallsRefusals
pub use Rattle.unit_inputs.specs.FileRefusals as FileRefusals
pub use Rattle.unit_inputs.specs.Inputs as Inputs
pub use Rattle.unit_inputs.specs.ReadsFor as ReadsFor
pub use Rattle.unit_inputs.specs.SettingsRefusals as SettingsRefusals
pub use Rattle.unit_inputs.specs.Settled as Settled
pub use Rattle.unit_inputs.specs.SiteRefusals as SiteRefusals
pub use Rattle.unit_inputs.specs.UnitRefusals as UnitRefusals
pub use Rattle.unit_inputs.specs.command_answers as command_answers
pub use Rattle.unit_inputs.specs.declared as declared
