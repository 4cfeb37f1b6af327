-- The definitions of `launcher` that crates above take from here.
pub use Rattle.launcher.specs.Alike as Alike
pub use Rattle.launcher.specs.Answers as Answers
pub use Rattle.launcher.specs.Conditions as Conditions
pub use Rattle.launcher.specs.Launch as Launch
pub use Rattle.launcher.specs.LaunchedWorlds as LaunchedWorlds
pub use Rattle.launcher.specs.Launches as Launches
pub use Rattle.launcher.specs.LaunchesAlike as LaunchesAlike
pub use Rattle.launcher.specs.Matching as Matching
pub use Rattle.launcher.specs.declared as declared
