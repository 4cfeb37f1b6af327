-- The definitions of `kernel_model` that crates above take from here.
pub use Rattle.kernel_model.specs.Effects as Effects
pub use Rattle.kernel_model.specs.MountNamespaces as MountNamespaces
pub use Rattle.kernel_model.specs.MountStep as MountStep
pub use Rattle.kernel_model.specs.Runs as Runs
pub use Rattle.kernel_model.specs.Step as Step
pub use Rattle.kernel_model.specs.StepCases as StepCases
pub use Rattle.kernel_model.specs.World as World
pub use Rattle.kernel_model.specs.kern_files as kern_files
pub use Rattle.kernel_model.specs.kernel_calls as kernel_calls
pub use Rattle.kernel_model.specs.declared as declared
